-- The command line, in clap's terms.
use Rattle.std.specs.Prelude.{◌≡◌, ◌≤◌, ◌⊎◌, ℕ, ⊤, true, false, pos, List, [], ◌∷◌, Option, Some, None, codes}
use Rattle.std.specs.Prelude.{Bool, option_and_then, option_map, if◌then◌else◌}
use Rattle.std.specs.Str.{bytes_eq}
use Rattle.std.specs.Str.Parse.{digits_value, without_leading_plus}
use Rattle.clap.specs.Words.{App, Row, Rule, Text, first_of, new_app, new_rule, one_of, subcommand_of}
use Rattle.clap.specs.Words.{with_rule}
use Rattle.clap.specs.ValueTests.{is_unsigned_in}
use Rattle.clap.specs.declared.builder.action.ArgAction.TheVariants.{Set, SetTrue}
use Rattle.clap.specs.declared.builder.value_parser.ValueParser.TheVariants.{Signed}
use Rattle.taskaudit.specs.declared.work.Job.{Job}
use Rattle.taskaudit.specs.declared.work.Job.TheVariants.{Check, Order, Record, Upgrade, Watch}
use Rattle.taskaudit.specs.declared.work.Input.{Input}
use Rattle.taskaudit.specs.declared.work.Input.TheVariants.{Unnamed, Standard, Named}

-- an option of this name with a number from `low` to `high`
abbrev pub number_rule : Text → ℕ → ℕ → Rule
number_rule name low high = record (new_rule name) {
  long = Some name;
  action = Some Set;
  value_names = 1;
  parser = Some (Signed (pos low) (pos high));
}

-- the option `--workers N`: a number from 1 to 256
abbrev pub workers_rule : Rule
workers_rule = number_rule (codes "workers") 1 256

-- the option `--to VERSION`: 2 or 3
abbrev pub version_rule : Rule
version_rule = number_rule (codes "to") 2 3

-- an option of this name, which has no value
abbrev pub flag_rule : Text → Rule
flag_rule name = record (new_rule name) {
  long = Some name;
  action = Some SetTrue;
}

-- the option `--all`
abbrev pub all_rule : Rule
all_rule = flag_rule (codes "all")

-- the option `--records`
abbrev pub records_rule : Rule
records_rule = flag_rule (codes "records")

-- the option `--most N`: a number from 1 to 1,000
abbrev pub most_rule : Rule
most_rule = number_rule (codes "most") 1 1000

-- the word for the file, which may be left out
abbrev pub file_rule : Rule
file_rule = record (new_rule (codes "file")) {
  action = Some Set;
  value_names = 1;
}

-- a subcommand with a word for a file
abbrev pub file_app : Text → App
file_app name = with_rule (new_app name) file_rule

-- the subcommands with options, `check`, `order` and `upgrade`
abbrev pub check_app : App
check_app = with_rule (with_rule (with_rule (file_app (codes "check")) workers_rule) all_rule) most_rule

abbrev pub order_app : App
order_app = with_rule (file_app (codes "order")) records_rule

abbrev pub upgrade_app : App
upgrade_app = with_rule (file_app (codes "upgrade")) version_rule

-- what clap reads of the command: it has a version, and wants a subcommand, of which there are five, each
-- with a word for a file
unfoldable pub command_line : App
command_line = record {
  top = record (new_app (codes "taskaudit")).top {
    is_leaf = false;
    has_version = true;
    subcommand_required = true;
    disable_help_subcommand = true;
  };
  subs = check_app.top ∷ order_app.top ∷ (file_app (codes "record")).top ∷ upgrade_app.top
      ∷ (file_app (codes "watch")).top ∷ [];
}

-- behind the name of the program stands what asks for the version, and nothing else
abbrev pub AsksVersion : List Text → Type 0
AsksVersion words = (name : Text)
    × ((words ≡ name ∷ codes "--version" ∷ []) ⊎ (words ≡ name ∷ codes "-V" ∷ []))

-- the number that the digits of a value write; a plus may stand before them
abbrev pub number_of : Text → ℕ
number_of value = digits_value 10 (without_leading_plus value)

-- the number that the value says, where there is a value and it is a number from `low` to `high`
abbrev pub number_in : ℕ → ℕ → Option Text → Option (Option ℕ)
number_in low high None = Some None
number_in low high (Some value) =
    if is_unsigned_in low high value then Some (Some (number_of value)) else None

-- whether an option without a value is given: clap then has this text for it
abbrev pub is_given : Option Text → Bool
is_given None = false
is_given (Some value) = bytes_eq value (codes "true")

-- how many findings are printed at most: so many as `--most` says, or 20 where `--all` is given without it;
-- none are printed without both
abbrev pub most_asked : Bool → Option ℕ → Option ℕ
most_asked all (Some most) = Some most
most_asked true None = Some 20
most_asked false None = None

-- a check, by as many threads as the first value says, 1 to 256, with the findings that the others ask for,
-- 1 to 1,000
abbrev pub check_by : Option Text → Bool → Option Text → Option Job
check_by workers all most =
    option_and_then (λ n. option_map (λ m. Check n (most_asked all m)) (number_in 1 1000 most))
    (number_in 1 256 workers)

-- an upgrade to the version that the value says, 2 or 3
abbrev pub upgrade_to : Option Text → Option Job
upgrade_to value = option_map Upgrade (number_in 2 3 value)

-- the check that the values for its arguments ask for
abbrev pub check_in : List Row → Option Job
check_in rows =
    check_by (one_of (codes "workers") rows) (is_given (first_of (codes "all") rows))
    (one_of (codes "most") rows)

-- the order that is asked for: with the records themselves where `--records` is given
abbrev pub order_in : List Row → Job
order_in rows = Order (is_given (first_of (codes "records") rows))

-- the job that a subcommand names, with the values that were found for its arguments
abbrev pub job_named : Text × List Row → Option Job
job_named (name, rows) = if bytes_eq name (codes "check") then check_in rows
    else (if bytes_eq name (codes "order") then Some (order_in rows)
    else (if bytes_eq name (codes "record") then Some Record
    else (if bytes_eq name (codes "upgrade") then upgrade_to (one_of (codes "to") rows)
    else (if bytes_eq name (codes "watch") then Some Watch else None))))

-- the words ask for the job
abbrev pub AsksFor : List Text → Job → Type 0
AsksFor words job = option_and_then job_named (subcommand_of command_line words) ≡ Some job

-- where a job reads from: standard input, which no word names; standard input by the word `-`; or a file by
-- its name
pub data Place : Type 0 where
  by_no_word : Place
  by_dash : Place
  by_name : Text → Place

-- the place that the word for the file names, if there is one
abbrev pub place_named : Option Text → Place
place_named None = by_no_word
place_named (Some word) = if bytes_eq word (codes "-") then by_dash else by_name word

-- the word for the file that was found behind a subcommand
abbrev pub file_word : Text × List Row → Option Text
file_word (name, rows) = first_of (codes "file") rows

-- the words ask for a job on this place
abbrev pub AsksOf : List Text → Place → Type 0
AsksOf words place = place_named (option_and_then file_word (subcommand_of command_line words)) ≡ place

-- the place as the program holds it
abbrev pub place_of : Input → Place
place_of Unnamed = by_no_word
place_of Standard = by_dash
place_of (Named name) = by_name name.now

-- each number of threads or of a version that a job names is in its range: a check's 1 to 256, an upgrade's
-- 2 or 3
abbrev pub HasItsNumber : Job → Type 0
HasItsNumber (Check (Some workers) most) = (1 ≤ workers) × (workers ≤ 256)
HasItsNumber (Upgrade (Some version)) = (2 ≤ version) × (version ≤ 3)
HasItsNumber _ = ⊤
