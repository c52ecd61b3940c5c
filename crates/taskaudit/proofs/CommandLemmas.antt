-- What clap makes of words for the command line.
use Rattle.std.proofs.Common.{◌≡◌, ◌∙◌, ◌<◌, ◌≤◌, ◌^◌, ap, sym, arith, ℕ, cond, subst, Result, Ok, Err}
use Rattle.std.proofs.Common.{true, false, inl, inr, Bool, List, [], ◌∷◌, Option, Some, None, refl, is_some}
use Rattle.std.proofs.Common.{codes, option_map}
use Rattle.std.proofs.Common.{option_and_then, cond}
use Rattle.std.specs.Prelude.{IfSome}
use Rattle.std.specs.Option.{option_map_or}
use Rattle.std.specs.Str.{bytes_eq}
use Rattle.std.proofs.lemmas.Option.{same_Some}
use Rattle.clap.specs.Words.{App, HasMatchesOf, IsParsedFrom, Shape, Text, app_of, built, fault_of, is_simple}
use Rattle.clap.specs.Words.{one_of, one_text, ReadsOne, rows_of, subcommand_of, subcommand_rows_of, Row}
use Rattle.clap.specs.Faults.{entered_fault, is_simple_and_free, level_fault, walk_fault}
use Rattle.clap.specs.Kinds.{Kinds}
use Rattle.clap.specs.Values.{IsUnsignedIn}
use Rattle.clap.specs.declared.builder.value_parser.ValueParser.TheVariants as vp
use Rattle.clap.specs.declared.parser.matches.Found.{Found}
use Rattle.clap.proofs.ValueTestLemmas.{accepts-Accepts}
use Rattle.clap.proofs.WalkLemmas.{one_text-rows}
use Rattle.std.specs.Str.Parse.{ParsesUnsigned}
use Rattle.taskaudit.specs.declared.work.Job.TheVariants.{Check, Record, Upgrade, Watch}
use Rattle.clap.specs.ValueTests.{is_unsigned_in}
use Rattle.clap.specs.Walk.{nothing_held, rows_after, stop_after, walk_from}
use Rattle.clap.specs.Matches.{has_subcommand}
use Rattle.clap.specs.Simple.{argument_words, entered, names_of, rows_at}
use Rattle.clap.specs.declared.builder.command.Command.{Command}
use Rattle.clap.specs.declared.builder.command.Command.TheViews.{out-Command}
use Rattle.clap.specs.declared.parser.matches.ArgMatches.{ArgMatches}
use Rattle.clap.proofs.OnLiterals.{clap_on_literals}
use Rattle.clap.specs.declared.error.kind.ErrorKind.TheVariants.{DisplayVersion}
use Rattle.taskaudit.specs.declared.work.Job.{Job}
use Rattle.taskaudit.specs.Commands.{command_line, check_by, check_in, upgrade_to, number_in, number_of}
use Rattle.taskaudit.specs.Commands.{job_named, is_given, most_asked, order_in}
use Rattle.taskaudit.specs.Commands.{AsksFor, AsksVersion}
use Rattle.taskaudit.specs.Commands.{HasItsNumber, AsksOf, Place, by_no_word, by_dash, by_name}
use Rattle.taskaudit.specs.Commands.{file_word, place_named}
use Rattle.std.proofs.lemmas.Slice.Eq.{bytes_eq-Decides}
use Rattle.taskaudit.proofs.NumberLemmas.{no_first, no_second, number_fits}

is_simple_line : is_simple command_line ≡ true
unfolding command_line clap_on_literals
is_simple_line = refl

-- clap says what an error of such a command is
pub is_free_line : (a : App) → a ≡ command_line → is_simple_and_free a ≡ true
unfolding command_line clap_on_literals
is_free_line a e = ap is_simple_and_free e

-- words that ask for the version alone fail as that
pub shows_version : (words : List Text) → AsksVersion words
    → fault_of command_line words ≡ DisplayVersion ∷ []
unfolding command_line clap_on_literals
shows_version words (name, inl e) = ap (fault_of command_line) e
shows_version words (name, inr e) = ap (fault_of command_line) e

-- what fails where the words after the subcommand are read
abbrev own_fault : Shape → List Text → Kinds
own_fault s rest = level_fault s [] nothing_held rest false []

-- what the tests find, of these
abbrev picked : {X : Type 0} → Bool → Bool → Bool → Bool → Bool → X → X → X → X → X → Option X
picked first second third fourth fifth s t u v w =
    cond first (Some s)
    (cond second (Some t) (cond third (Some u) (cond fourth (Some v) (cond fifth (Some w) None))))

-- what a subcommand comes to, where the tests say which one is named
named_if : (first second third fourth fifth : Bool) (s t u v w : Shape) (rest : List Text)
    → s.name ≡ codes "check" → t.name ≡ codes "order" → u.name ≡ codes "record" → v.name ≡ codes "upgrade"
    → w.name ≡ codes "watch"
    → (own_fault s rest ≡ []
    → is_some (check_in (rows_after s.rules [] rest)) ≡ true)
    → (own_fault v rest ≡ []
    → is_some (upgrade_to (one_of (codes "to") (rows_after v.rules [] rest))) ≡ true)
    → option_map_or (λ (it : Shape). own_fault it rest)
    (picked first second third fourth fifth s t u v w) []
    ≡ []
    → is_some
    (option_map (λ (it : Shape). rows_at it rest) (picked first second third fourth fifth s t u v w)) ≡ true
    → is_some
    (option_and_then job_named
    (option_map (λ (it : Shape). rows_at it rest) (picked first second third fourth fifth s t u v w)))
    ≡ true
named_if true _ _ _ _ s t u v w rest check order recording upgrading watch fits fit passed e =
    rw check (fits passed)
named_if false true _ _ _ s t u v w rest check order recording upgrading watch fits fit passed e = rw order
named_if false false true _ _ s t u v w rest check order recording upgrading watch fits fit passed e =
    rw recording
named_if false false false true _ s t u v w rest check order recording upgrading watch fits fit passed e =
    rw upgrading (fit passed)
named_if false false false false true s t u v w rest check order recording upgrading watch fits fit passed e =
    rw watch
named_if false false false false false s t u v w rest check order recording upgrading watch fits fit
    passed e = cc

-- values in their ranges name a check, or an upgrade
check_named : (workers most : Option Text) (all : Bool)
    → IfSome workers (λ t. is_unsigned_in 1 256 t ≡ true)
    → IfSome most (λ t. is_unsigned_in 1 1000 t ≡ true)
    → is_some (check_by workers all most) ≡ true
check_named None None all crew few = refl
check_named None (Some most) all crew few = rw few
check_named (Some workers) None all crew few = rw crew
check_named (Some workers) (Some most) all crew few = rw (crew, few)

upgrade_named : (to : Option Text) → IfSome to (λ t. is_unsigned_in 2 3 t ≡ true)
    → is_some (upgrade_to to) ≡ true
upgrade_named None known = refl
upgrade_named (Some to) known = rw known

-- whatever the walk stopped at, a subcommand that is entered, and does not fail, names a job
names_at : (stop : Option (Text × List Text)) → entered_fault (built command_line) stop ≡ []
    → is_some (entered (built command_line) stop) ≡ true
    → is_some (option_and_then job_named (entered (built command_line) stop)) ≡ true
unfolding command_line
names_at None passed e = cc
names_at (Some (name, rest)) passed e =
    named_if _ _ _ _ _ _ _ _ _ _ rest refl refl refl refl refl
    (λ own.
    check_named _ _ _
    (number_fits (codes "workers") 1 256 (omega arith) (omega arith) _ (
      record { defaults = inl refl; which = inr (inr (inl refl, refl)) },
      (
        record { defaults = inl refl; which = inl refl },
        (
          record { defaults = inr refl; which = inr (inr (inr refl, refl)) },
          (
            record { defaults = inl refl; which = inr (inr (inl refl, refl)) },
            (record { defaults = inl refl; which = inr (inl refl) }, tt),
          ),
        ),
      ),
    )
    rest own)
    (number_fits (codes "most") 1 1000 (omega arith) (omega arith) _ (
      record { defaults = inl refl; which = inr (inr (inl refl, refl)) },
      (
        record { defaults = inl refl; which = inr (inr (inl refl, refl)) },
        (
          record { defaults = inr refl; which = inr (inr (inr refl, refl)) },
          (
            record { defaults = inl refl; which = inl refl },
            (record { defaults = inl refl; which = inr (inl refl) }, tt),
          ),
        ),
      ),
    )
    rest own))
    (λ own.
    upgrade_named _
    (number_fits (codes "to") 2 3 (omega arith) (omega arith) _ (
      record { defaults = inl refl; which = inr (inr (inl refl, refl)) },
      (
        record { defaults = inl refl; which = inl refl },
        (record { defaults = inl refl; which = inr (inl refl) }, tt),
      ),
    )
    rest own))
    passed e

-- where the words do not fail, those after the subcommand do not
inner_passes : (words : List Text) → fault_of command_line words ≡ []
    → entered_fault (built command_line)
    (stop_after (built command_line).top.rules (names_of (built command_line))
    (argument_words command_line words))
    ≡ []
inner_passes words passed =
    no_first _ _
    (no_second
    (walk_fault (built command_line).top (names_of (built command_line)) (walk_from nothing_held)
    (argument_words command_line words)) _
    passed)

-- an option with a number from `low` to `high`
module _ (name : Text) (low high : ℕ) (small : high < 2 ^ 32) where
  -- the number that `get_one` reads of a value that is one of these
  number_read : (E : Type 0) (G : Text → Result ℕ E → Type 0)
      → ((u : Text) (x : Result ℕ E) → G u x → ParsesUnsigned 32 10 u x)
      → (t : Text) (r : Option ℕ) → is_some (number_in low high (Some t)) ≡ true → ReadsOne G t r
      → number_in low high (Some t) ≡ Some r
  number_read E G only t r e read = go (is_unsigned_in low high t) refl e
    where
      by_value : (o : Option ℕ) → ReadsOne G t o → IsUnsignedIn low high t
          → ◌≡◌ {A = Option (Option ℕ)} (Some (Some (number_of t))) (Some o)
      by_value (Some n) got ok = ap (λ (k : ℕ). Some (Some k)) (sym (only t (Ok n) got).1)
      by_value None got ok = absurd (only t (Err got.0) got.1 (ok.0, omega arith))

      go : (b : Bool) → is_unsigned_in low high t ≡ b
          → is_some (cond b (Some (Some (number_of t))) None) ≡ true
          → cond b (Some (Some (number_of t))) None ≡ Some r
      go true is some = by_value r read (accepts-Accepts false (vp.Unsigned low high) t is)
      go false is some = cc

  -- the value that was found, if there is one, is what `get_one` reads
  pub number_found : (E : Type 0) (G : Text → Result ℕ E → Type 0)
      → ((u : Text) (x : Result ℕ E) → G u x → ParsesUnsigned 32 10 u x)
      → (f : Found) (r : Option ℕ) → is_some (number_in low high (one_of name (rows_of f))) ≡ true
      → (one_text f name ≡ None → r ≡ None)
      → ((t : Text) → one_text f name ≡ Some t → ReadsOne G t r)
      → number_in low high (one_of name (rows_of f)) ≡ Some r
  number_found E G only f r e none value =
      go (one_of name (rows_of f)) e (λ is. none (one_text-rows f name ∙ is))
      (λ t is. value t (one_text-rows f name ∙ is)) refl
    where
      go : (o : Option Text) → is_some (number_in low high o) ≡ true
          → (one_of name (rows_of f) ≡ None → r ≡ None)
          → ((t : Text) → one_of name (rows_of f) ≡ Some t → ReadsOne G t r)
          → one_of name (rows_of f) ≡ o → number_in low high o ≡ Some r
      go None some absent read is = ap (λ (n : Option ℕ). Some n) (sym (absent is))
      go (Some t) some absent read is = number_read E G only t r some (read t is)

-- ---- whether an option without a value is given

pub given_by_none : (o : Option Text) → o ≡ None → false ≡ is_given o
given_by_none o is = sym (ap is_given is)

pub given_by_true : (o : Option Text) (t : Text) → o ≡ Some t → t ≡ codes "true" → true ≡ is_given o
given_by_true o t is same = sym (ap is_given (is ∙ ap (λ (w : Text). Some w) same))

pub given_by_other : (o : Option Text) (t : Text) → o ≡ Some t → (t ≡ codes "true" → ⊥)
    → false ≡ is_given o
given_by_other o t is other = sym (ap is_given is ∙ go (bytes_eq t (codes "true")) refl)
  where
    go : (b : Bool) → bytes_eq t (codes "true") ≡ b → b ≡ false
    go true same = absurd (other ((bytes_eq-Decides t (codes "true")).0 same))
    go false same = refl

-- ---- the number of a job

-- a number that an option says is in its range
number_within : (low high : ℕ) (o : Option Text) (n : ℕ) → number_in low high o ≡ Some (Some n)
    → (low ≤ n) × (n ≤ high)
number_within low high None n says = absurd (cc)
number_within low high (Some value) n says = go (is_unsigned_in low high value) refl says
  where
    go : (b : Bool) → is_unsigned_in low high value ≡ b
        → cond b (Some (Some (number_of value))) None ≡ Some (Some n) → (low ≤ n) × (n ≤ high)
    go true is says' =
        let number : IsUnsignedIn low high value = accepts-Accepts false (vp.Unsigned low high) value is in
        let same : number_of value ≡ n = same_Some _ n (same_Some _ (Some n) says') in
        subst (λ (it : ℕ). (low ≤ it) × (it ≤ high)) same (number.2, number.3)
    go false is says' = absurd (cc)

-- so a check has its own
check_numbered : (workers most : Option (Option ℕ)) (all : Bool) (job : Job)
    → ((n : ℕ) → workers ≡ Some (Some n) → (1 ≤ n) × (n ≤ 256))
    → option_and_then (λ n. option_map (λ m. Check n (most_asked all m)) most) workers ≡ Some job
    → HasItsNumber job
check_numbered None most all job within named = absurd (cc)
check_numbered (Some n) None all job within named = absurd (cc)
check_numbered (Some None) (Some m) all job within named = subst HasItsNumber (same_Some _ job named) tt
check_numbered (Some (Some n)) (Some m) all job within named =
    subst HasItsNumber (same_Some _ job named) (within n refl)

-- and an upgrade
upgrade_numbered : (to : Option (Option ℕ)) (job : Job)
    → ((n : ℕ) → to ≡ Some (Some n) → (2 ≤ n) × (n ≤ 3)) → option_map Upgrade to ≡ Some job
    → HasItsNumber job
upgrade_numbered None job within named = absurd (cc)
upgrade_numbered (Some None) job within named = subst HasItsNumber (same_Some _ job named) tt
upgrade_numbered (Some (Some n)) job within named =
    subst HasItsNumber (same_Some _ job named) (within n refl)

job_numbered : (o : Option (Text × List Row)) (job : Job) → option_and_then job_named o ≡ Some job
    → HasItsNumber job
job_numbered None job e = cc
job_numbered (Some (name, rows)) job e =
    go (bytes_eq name (codes "check")) (bytes_eq name (codes "order")) (bytes_eq name (codes "record"))
    (bytes_eq name (codes "upgrade")) (bytes_eq name (codes "watch")) e
  where
    go : (check order recording upgrading watch : Bool)
        → cond check (check_in rows)
        (cond order (Some (order_in rows))
        (cond recording (Some Record)
        (cond upgrading (upgrade_to (one_of (codes "to") rows)) (cond watch (Some Watch) None))))
        ≡ Some job
        → HasItsNumber job
    go true order recording upgrading watch named =
        check_numbered _ _ _ job (number_within 1 256 (one_of (codes "workers") rows)) named
    go false true recording upgrading watch named = subst HasItsNumber (same_Some _ job named) tt
    go false false true upgrading watch named = subst HasItsNumber (same_Some _ job named) tt
    go false false false true watch named =
        upgrade_numbered _ job (number_within 2 3 (one_of (codes "to") rows)) named
    go false false false false true named = subst HasItsNumber (same_Some _ job named) tt
    go false false false false false named = cc

pub number_asked : (words : List Text) (job : Job) → AsksFor words job → HasItsNumber job
number_asked words job asked = job_numbered (subcommand_of command_line words) job asked

-- ---- the place that a job reads from

pub of_no_word : (o : Option Text) → o ≡ None → place_named o ≡ by_no_word
of_no_word o is = ap place_named is

pub of_a_line : (o : Option Text) (t : Text) → o ≡ Some t → t ≡ codes "-" → place_named o ≡ by_dash
of_a_line o t is line = ap place_named (is ∙ ap (λ (w : Text). Some w) line)

pub of_a_name : (o : Option Text) (t : Text) → o ≡ Some t → (t ≡ codes "-" → ⊥) → place_named o ≡ by_name t
of_a_name o t is other = ap place_named is ∙ go (bytes_eq t (codes "-")) refl
  where
    go : (b : Bool) → bytes_eq t (codes "-") ≡ b → cond b by_dash (by_name t) ≡ by_name t
    go true same = absurd (other ((bytes_eq-Decides t (codes "-")).0 same))
    go false same = refl

is_some_map : {T U : Type 0} (f : T → U) (o : Option T) → is_some (option_map f o) ≡ is_some o
is_some_map f None = refl
is_some_map f (Some x) = refl

module _ (c : Command) (m : ArgMatches) (line : app_of c ≡ command_line) where
  -- a parse that succeeds met a subcommand
  pub meets_one : (out-Command c).has_globals ≡ false → IsParsedFrom c m → has_subcommand m ≡ true
  unfolding command_line
  meets_one local h =
      (h.parsed (h.from.globals ∙ local)).checked.subcommand
      (h.from.needs_subcommand ∙ ap (λ (a : App). a.top.subcommand_required) line)

  module _ (words : List Text) (h : HasMatchesOf (app_of c) words m) where
    -- its matches are those that the words ask for
    rows : subcommand_rows_of m ≡ subcommand_of command_line words
    rows = (h (ap is_simple line ∙ is_simple_line)).1 ∙ ap (λ (a : App). subcommand_of a words) line

    -- and it names a job
    pub names_job : fault_of (app_of c) words ≡ [] → has_subcommand m ≡ true
        → is_some (option_and_then job_named (subcommand_rows_of m)) ≡ true
    names_job passed met =
        rw rows
        (names_at _ (inner_passes words (ap (λ (a : App). fault_of a words) (sym line) ∙ passed))
        (sym (ap is_some rows) ∙ is_some_map _ _ ∙ met))

    -- for which the words ask
    pub asks_for : (job : Job) → option_and_then job_named (subcommand_rows_of m) ≡ Some job
        → AsksFor words job
    asks_for job named = sym (ap (option_and_then job_named) rows) ∙ named

    -- and the place from which they ask it
    pub asks_of : (place : Place)
        → place_named (option_and_then file_word (subcommand_rows_of m)) ≡ place → AsksOf words place
    asks_of place is = sym (ap (λ o. place_named (option_and_then file_word o)) rows) ∙ is
