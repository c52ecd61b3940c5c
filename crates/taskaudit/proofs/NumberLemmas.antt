-- What clap finds for an option with a number, where it refuses nothing: a number in its range.
use Rattle.std.proofs.Common.{◌≡◌, ◌∙◌, ◌&&◌, ◌++◌, ◌⊎◌, ◌==◌, ℕ, ◌≤◌, ◌<◌, ◌^◌, Bool, cond, true, false}
use Rattle.std.proofs.Common.{zero, suc, refl, sym, ap, ap₂, subst, arith, List, [], ◌∷◌, length, drop}
use Rattle.std.proofs.Common.{Option, Some, None}
use Rattle.std.proofs.Common.{inl, inr, option_and_then, option_map}
use Rattle.std.specs.Prelude.{IfSome, is_some, encode_utf8, pos, slice_get, unwrap_or}
use Rattle.std.specs.List.{AllByRecursion, find, fold, list_all}
use Rattle.std.specs.Option.{option_map_or}
use Rattle.std.specs.Str.{bytes_eq, chars}
use Rattle.std.specs.Str.Parse.{starts_with_minus}
use Rattle.std.proofs.lemmas.Int.{ints}
use Rattle.std.proofs.lemmas.List.Folds.{list_all-append}
use Rattle.std.proofs.lemmas.Slice.Eq.{bytes_eq-Decides}
use Rattle.clap.specs.Words.{Row, Rule, Shape, Text, one_of, without_minus}
use Rattle.clap.specs.Values.{IsSignedIn, IsUnsignedIn, read_as}
use Rattle.clap.specs.ValueTests.{accepts, is_unsigned_in}
use Rattle.clap.specs.Walk.{Held, Names, Outcome, Step, Waiting, Walk, action_of, after_flag, after_step}
use Rattle.clap.specs.Walk.{arg_by_id, arg_by_index, arg_by_long, arg_by_short, attached_value, bundle_met}
use Rattle.clap.specs.Walk.{bundle_step, done, flag_met, idle, is_pending, long_met, long_or_other, next}
use Rattle.clap.specs.Walk.{nothing_held, option, option_met, option_word, plain, plain_word, positional}
use Rattle.clap.specs.Walk.{reacted, refused, row_text, rows_after, settled, settled_rows, short_met}
use Rattle.clap.specs.Walk.{short_or_plain, stronger, subcommand, subcommand_met, subcommand_or_other}
use Rattle.clap.specs.Walk.{takes_several, takes_values, to_positional, trailing, used, used_as, used_by_id}
use Rattle.clap.specs.Walk.{value, values_or_missing, reading_by, waits, walk, walk_from, walked, walked_from}
use Rattle.clap.specs.Walk.{with_default, with_values, without, word_met, has_row, default_rows}
use Rattle.clap.specs.Lexer.{long_of, short_of}
use Rattle.clap.specs.Kinds.{Kinds, or_else, range_kinds, value_kinds, values_kinds}
use Rattle.clap.specs.Faults.{bundle_step_fault, flag_word_fault, flags_fault, level_fault, long_fault}
use Rattle.clap.specs.Faults.{option_fault, other_fault, positional_fault, react_fault, repeat_fault}
use Rattle.clap.specs.Faults.{set_fault, settle_fault, short_fault, step_fault, stray_fault, turn_fault}
use Rattle.clap.specs.Faults.{use_fault, walk_fault, word_fault}
use Rattle.clap.specs.declared.builder.action.ArgAction.{ArgAction}
use Rattle.clap.specs.declared.builder.action.ArgAction.TheVariants.{Help, Set, SetTrue}
use Rattle.clap.specs.declared.builder.value_parser.ValueParser.{ValueParser}
use Rattle.clap.specs.declared.builder.value_parser.ValueParser.TheVariants as vp
use Rattle.clap.specs.declared.builder.value_parser.Reading.{Reading}
use Rattle.clap.specs.declared.builder.value_parser.Reading.TheVariants as reading
use Rattle.clap.specs.declared.error.kind.ErrorKind.TheVariants as kind
use Rattle.clap.specs.declared.parser.matches.ValueSource.{ValueSource}
use Rattle.clap.specs.declared.parser.matches.ValueSource.TheVariants.{CommandLine, DefaultValue}
use Rattle.clap.specs.Simple.{filled}
use Rattle.clap.proofs.ValueTestLemmas.{accepts-Accepts, Accepts-accepts}
use Rattle.clap.proofs.WalkLemmas.{both}
use Rattle.taskaudit.specs.Commands.{number_rule}

-- ---- two steps of which neither fails

pub no_first : (a b : Kinds) → or_else a b ≡ [] → a ≡ []
no_first [] b e = refl
no_first (k ∷ ks) b e = e

pub no_second : (a b : Kinds) → or_else a b ≡ [] → b ≡ []
no_second [] b e = e
no_second (k ∷ ks) b e = cc

-- an option of this name, with a number from `low` to `high`
module _ (name : Text) (low high : ℕ) (positive : 1 ≤ low) (small : high < 2 ^ 64) where
  abbrev parser : ValueParser
  parser = vp.Signed (pos low) (pos high)

  -- the option
  abbrev rule : Rule
  rule = filled (number_rule name low high)

  abbrev fits : Text → Bool
  fits = accepts false parser

  -- its name
  abbrev is_named : Text → Bool
  is_named id = bytes_eq id name

  -- values that passed
  record HavePassed (how : Reading) (values : List Text) : Type 0 where
    read : how ≡ reading.WithoutMinus
    passed : list_all fits values ≡ true

  -- the values of the option passed, if the row is one of it
  abbrev HasPassed : Row → Type 0
  HasPassed r = is_named r.id ≡ true → HavePassed r.reading r.values

  abbrev Passed : List Row → Type 0
  Passed = AllByRecursion HasPassed

  -- an argument of which the last use counts
  abbrev IsSet : Rule → Type 0
  IsSet a = (action_of a ≡ Set) ⊎ (action_of a ≡ SetTrue)

  -- an argument that is the option, asks for help, or has another name; only such a one has default values
  pub record IsKnown (a : Rule) : Type 0 where
    pub defaults : (a.defaults ≡ []) ⊎ (is_named a.id ≡ false)
    pub which : (a ≡ rule)
        ⊎ ((action_of a ≡ Help) ⊎ (IsSet a × (is_named a.id ≡ false)))

  -- ---- values and rows

  value_fits : (v : Text) → value_kinds false parser v ≡ [] → fits v ≡ true
  value_fits v e = go (fits v) e
    where
      go : (b : Bool) → cond b [] (kind.ValueValidation ∷ []) ≡ [] → b ≡ true
      go true h = refl
      go false h = cc

  values_fit : (vs : List Text) → values_kinds false parser vs ≡ [] → list_all fits vs ≡ true
  values_fit [] e = refl
  values_fit (v ∷ vs) e =
      ap₂ (λ (a b : Bool). a && b) (value_fits v (no_first _ _ e))
      (values_fit vs (no_second (value_kinds false parser v) _ e))

  without_passes : (id : Text) (rows : List Row) → Passed rows → Passed (without id rows)
  without_passes id [] h = h
  without_passes id (r ∷ rs) h = go (bytes_eq r.id id) (without_passes id rs h.1)
    where
      go : (b : Bool) → Passed (without id rs) → Passed (cond b rs (r ∷ without id rs))
      go true rest = h.1
      go false rest = (h.0, rest)

  with_passes : (id : Text) (how : Reading) (from : ValueSource) (vs : List Text) (rows : List Row)
      → (is_named id ≡ true → HavePassed how vs) → Passed rows
      → Passed (with_values id how from vs rows)
  with_passes id how from vs [] fit h = (fit, tt)
  with_passes id how from vs (r ∷ rs) fit h =
      go (bytes_eq r.id id) refl (with_passes id how from vs rs fit h.1)
    where
      go : (b : Bool) → bytes_eq r.id id ≡ b → Passed (with_values id how from vs rs)
          → Passed
          (cond b (record r { values = r.values ++ vs; source = Some (stronger r.source from) } ∷ rs)
          (r ∷ with_values id how from vs rs))
      go true same rest = (
        λ named.
            let is : r.id ≡ id = (bytes_eq-Decides r.id id).0 same in
            record {
              read = (h.0 named).read;
              passed =
                  list_all-append fits r.values vs
                  ∙ ap₂ (λ (a b : Bool). a && b) (h.0 named).passed
                  (fit (ap is_named (sym is) ∙ named)).passed;
            },
        h.1,
      )
      go false same rest = (h.0, rest)

  -- ---- one use of an argument

  of_option : (again : Bool) (vs : List Text) (rows : List Row)
      → use_fault again rule vs rows ≡ [] → Passed rows
      → Passed (used rule vs rows)
  of_option again vs rows e h =
      let values = values_or_missing rule vs in
      let set : set_fault again rule values rows ≡ [] =
      no_second (range_kinds 1 1 (length vs)) _ e in
      let kinds : values_kinds false parser values ≡ [] =
      no_second (repeat_fault again name rows) _ set in
      with_passes name reading.WithoutMinus CommandLine values (without name rows)
      (λ named. record { read = refl; passed = values_fit values kinds })
      (without_passes name rows h)

  -- of another argument
  of_other : (a : Rule) (vs : List Text) (rows : List Row) → is_named a.id ≡ false → Passed rows
      → Passed (used_as Set a.id (reading_by a) (values_or_missing a vs) rows)
  of_other a vs rows other h =
      with_passes a.id (reading_by a) CommandLine (values_or_missing a vs) (without a.id rows)
      (λ named. let never = sym named ∙ other in absurd (cc))
      (without_passes a.id rows h)

  used_passes : (again : Bool) (a : Rule) (vs : List Text) (rows : List Row) → IsKnown a
      → use_fault again a vs rows ≡ [] → Passed rows
      → Passed (used a vs rows)
  used_passes again a vs rows known e h = go known.which
    where
      go : (a ≡ rule)
          ⊎ ((action_of a ≡ Help) ⊎ (IsSet a × (is_named a.id ≡ false)))
          → Passed (used a vs rows)
      go (inl is) =
          subst (λ (r : Rule). use_fault again r vs rows ≡ [] → Passed (used r vs rows)) (sym is)
          (λ f. of_option again vs rows f h) e
      go (inr (inl help)) =
          subst (λ (x : ArgAction). Passed (used_as x a.id (reading_by a) (values_or_missing a vs) rows))
          (sym help) h
      go (inr (inr (inl set, other))) =
          subst (λ (x : ArgAction). Passed (used_as x a.id (reading_by a) (values_or_missing a vs) rows))
          (sym set) (of_other a vs rows other h)
      go (inr (inr (inr set, other))) =
          subst (λ (x : ArgAction). Passed (used_as x a.id (reading_by a) (values_or_missing a vs) rows))
          (sym set) (of_other a vs rows other h)

  find_known : (p : Rule → Bool) (c : List Rule) → AllByRecursion IsKnown c
      → IfSome (find p c) IsKnown
  find_known p [] k = tt
  find_known p (a ∷ rest) k = go (p a) (find_known p rest k.1)
    where
      go : (b : Bool) → IfSome (find p rest) IsKnown
          → IfSome (cond b (Some a) (find p rest)) IsKnown
      go true later = k.0
      go false later = later

  module _ (s : Shape) (known : AllByRecursion IsKnown s.rules) where
    abbrev c : List Rule
    c = s.rules

    abbrev again : Bool
    again = s.args_override_self

    by_id : (o : Option Rule) (vs : List Text) (rows : List Row) → IfSome o IsKnown
        → option_map_or (λ a. use_fault again a vs rows) o [] ≡ []
        → Passed rows → Passed (used_by_id o vs rows)
    by_id None vs rows k e h = h
    by_id (Some a) vs rows k e h = used_passes again a vs rows k e h

    settles : (p : Option (Text × List Text)) (rows : List Row)
        → option_map_or (λ q. option_map_or (λ a. use_fault again a q.1 rows) (arg_by_id c q.0) []) p [] ≡ []
        → Passed rows
        → Passed (settled_rows c p rows)
    settles None rows e h = h
    settles (Some q) rows e h = by_id (arg_by_id c q.0) q.1 rows (find_known _ c known) e h

    settle_passes : (h : Held) → settle_fault c again h ≡ [] → Passed h.rows → Passed (settled c h).rows
    settle_passes h e p = settles h.pending h.rows e p

    react_passes : (a : Rule) (vs : List Text) (h : Held) → IsKnown a → react_fault c again a vs h ≡ []
        → Passed h.rows
        → Passed (reacted c a vs h).rows
    react_passes a vs h k e p =
        used_passes again a vs _ k (no_second (settle_fault c again h) _ e)
        (settle_passes h (no_first _ _ e) p)

    option_passes : (a : Rule) (v : Option Text) (h : Held) → IsKnown a
        → option_fault c again a v h ≡ [] → Passed h.rows
        → Passed (option_met c a v h).0.rows
    option_passes a (Some v) h k e p = react_passes a (v ∷ []) h k e p
    option_passes a None h k e p = settle_passes h e p

    flag_passes : (a : Rule) (v : Option Text) (h : Held) → IsKnown a
        → cond (is_some v) (kind.TooManyValues ∷ []) (react_fault c again a [] h) ≡ [] → Passed h.rows
        → Passed (flag_met c a v h).0.rows
    flag_passes a (Some v) h k e p = p
    flag_passes a None h k e p = react_passes a [] h k e p

    long_passes : (o : Option Rule) (v : Option Text) (h : Held) → IfSome o IsKnown
        → long_fault c again o v h ≡ [] → Passed h.rows
        → Passed (long_met c o v h).0.rows
    long_passes None v h k e p = p
    long_passes (Some a) v h k e p = go (takes_values a) e
      where
        go : (b : Bool)
            → cond b (option_fault c again a v h)
            (cond (is_some v) (kind.TooManyValues ∷ []) (react_fault c again a [] h))
            ≡ []
            → Passed (cond b (option_met c a v h) (flag_met c a v h)).0.rows
        go true f = option_passes a v h k f p
        go false f = flag_passes a v h k f p

    -- a letter of a bundle, and what follows it
    short_passes : (o : Option Rule) (rest : Text) (h : Held) (fault : Held → Kinds)
        (met : Held → Held × Outcome)
        → IfSome o IsKnown → ((g : Held) → fault g ≡ [] → Passed g.rows → Passed (met g).0.rows)
        → short_fault c again o rest h fault ≡ [] → Passed h.rows → Passed (short_met c o rest h met).0.rows
    short_passes None rest h fault met k later e p = p
    short_passes (Some a) rest h fault met k later e p = go (takes_values a) e
      where
        go : (b : Bool)
            → cond b (option_fault c again a (attached_value rest) h)
            (or_else (react_fault c again a [] h) (fault (reacted c a [] h)))
            ≡ []
            → Passed (cond b (option_met c a (attached_value rest) h) (met (reacted c a [] h))).0.rows
        go true f = option_passes a (attached_value rest) h k f p
        go false f =
            later (reacted c a [] h) (no_second (react_fault c again a [] h) _ f)
            (react_passes a [] h k (no_first _ _ f) p)

    step_of_bundle : (k : ℕ) (o : Option ℕ) (flags : Text) (skip : ℕ) (so_far : Outcome) (h : Held)
        → ((rest : Text) (less : ℕ) (o : Outcome) (g : Held) → flags_fault c again k rest less g ≡ []
        → Passed g.rows → Passed (bundle_met c k rest less o g).0.rows)
        → bundle_step_fault c again o flags skip h (flags_fault c again k) ≡ [] → Passed h.rows
        → Passed (bundle_step c o flags skip so_far h (bundle_met c k)).0.rows
    step_of_bundle k None flags skip so_far h later e p = p
    step_of_bundle k (Some x) flags zero so_far h later e p =
        let rest = drop (length (encode_utf8 x)) flags in
        short_passes (arg_by_short c x) rest h (flags_fault c again k rest 0) (bundle_met c k rest 0 done)
        (find_known _ c known)
        (later rest 0 done) e p
    step_of_bundle k (Some x) flags (suc skip) so_far h later e p = later _ skip so_far h e p

    bundle_passes : (k : ℕ) (flags : Text) (skip : ℕ) (so_far : Outcome) (h : Held)
        → flags_fault c again k flags skip h ≡ [] → Passed h.rows
        → Passed (bundle_met c k flags skip so_far h).0.rows
    unfolding flags_fault bundle_met
    bundle_passes zero flags skip so_far h e p = p
    bundle_passes (suc k) flags skip so_far h e p =
        step_of_bundle k (slice_get (chars flags) 0) flags skip so_far h (bundle_passes k) e p

    -- ---- a word

    pushes : (o : Option Rule) (id word : Text) (h : Held) → Passed h.rows
        → Passed (option_word o id word h).0.rows
    pushes None id word h p = p
    pushes (Some a) id word h p = p

    plain_passes : (waiting : Waiting) (word : Text) (h : Held) → Passed h.rows
        → Passed (plain_word c waiting word h).0.rows
    plain_passes idle word h p = p
    plain_passes (option id) word h p = pushes (arg_by_id c id) id word h p
    plain_passes positional word h p = p

    after_passes : (waiting : Waiting) (word : Text) (h : Held) (o : Outcome) → Passed h.rows
        → Passed (after_flag c waiting word h o).0.rows
    after_passes waiting word h done p = p
    after_passes waiting word h (waits id) p = p
    after_passes waiting word h plain p = plain_passes waiting word h p
    after_passes waiting word h refused p = plain_passes waiting word h p

    flag_word_passes : (o : Option (Text × Option Text)) (waiting : Waiting) (word : Text) (h : Held)
        → flag_word_fault c again o word h ≡ []
        → Passed h.rows → Passed (long_or_other c waiting word o h).0.rows
    flag_word_passes (Some q) waiting word h e p =
        after_passes waiting word _ _ (long_passes (arg_by_long c q.0) q.1 h (find_known _ c known) e p)
    flag_word_passes None waiting word h e p = go (short_of word) e
      where
        go : (o : Option Text)
            → option_map_or
            (λ flags. flags_fault c again (length flags) flags h.skip (record h { skip = 0 })) o []
            ≡ []
            → Passed (short_or_plain c waiting word o h).0.rows
        go None f = plain_passes waiting word h p
        go (Some flags) f =
            after_passes waiting word _ _
            (bundle_passes (length flags) flags h.skip plain (record h { skip = 0 }) f p)

    other_passes : (o : Option Text) (waiting : Waiting) (position : ℕ) (word : Text) (h : Held)
        → other_fault s o word h ≡ [] → Passed h.rows
        → Passed (subcommand_or_other c o waiting position word h).0.rows
    other_passes (Some name) waiting position word h e p = p
    other_passes None waiting position word h e p = go (bytes_eq word (45 ∷ 45 ∷ [])) e
      where
        go : (b : Bool) → cond b [] (flag_word_fault c again (long_of word) word h) ≡ []
            → Passed (cond b (h, trailing position) (long_or_other c waiting word (long_of word) h)).0.rows
        go true f = p
        go false f = flag_word_passes (long_of word) waiting word h f p

    word_passes : (names : Names) (is_trailing : Bool) (waiting : Waiting) (position : ℕ) (word : Text)
        (h : Held)
        → word_fault s names is_trailing waiting word h ≡ [] → Passed h.rows
        → Passed (word_met c names is_trailing waiting position word h).0.rows
    word_passes names true waiting position word h e p = p
    word_passes names false waiting position word h e p =
        other_passes (subcommand_met names waiting word) waiting position word h e p

    held_passes : (b : Bool) (h : Held) → cond b [] (settle_fault c again h) ≡ [] → Passed h.rows
        → Passed (cond b h (settled c h)).rows
    held_passes true h e p = p
    held_passes false h e p = settle_passes h e p

    value_passes : (o : Option Rule) (word : Text) (w : Walk) (h : Held)
        → option_map_or (λ a. positional_fault c again a h) o (stray_fault s) ≡ [] → Passed h.rows
        → Passed (to_positional c o word w h).held.rows
    value_passes None word w h e p = p
    value_passes (Some a) word w h e p = held_passes (is_pending a h.pending && takes_several a) h e p

    step_passes : (step : Step) (word : Text) (w : Walk) (h : Held) → step_fault s w.position h step ≡ []
        → Passed h.rows
        → Passed (after_step c word w h step).held.rows
    step_passes (next waiting) word w h e p = p
    step_passes (trailing position) word w h e p = p
    step_passes (subcommand name) word w h e p = p
    step_passes value word w h e p = value_passes (arg_by_index c w.position) word w h e p

    turn_passes : (names : Names) (w : Walk) (word : Text) → turn_fault s names w word ≡ []
        → Passed w.held.rows
        → Passed (walked c names w word).held.rows
    unfolding walked
    turn_passes names w word e p = go w.stopped e
      where
        go : (o : Option (Text × List Text))
            → cond (is_some o) []
            (or_else (word_fault s names w.is_trailing w.waiting word w.held)
            (step_fault s w.position (word_met c names w.is_trailing w.waiting w.position word w.held).0
            (word_met c names w.is_trailing w.waiting w.position word w.held).1))
            ≡ []
            → Passed (walked_from c names o w word).held.rows
        go (Some q) f = p
        go None f =
            step_passes _ word w _ (no_second (word_fault s names w.is_trailing w.waiting word w.held) _ f)
            (word_passes names w.is_trailing w.waiting w.position word w.held (no_first _ _ f) p)

    walk_passes : (names : Names) (words : List Text) (w : Walk) → walk_fault s names w words ≡ []
        → Passed w.held.rows
        → Passed (fold (walked c names) w words).held.rows
    unfolding walk_fault
    walk_passes names [] w e p = p
    walk_passes names (word ∷ rest) w e p =
        walk_passes names rest (walked c names w word) (no_second (turn_fault s names w word) _ e)
        (turn_passes names w word (no_first _ _ e) p)

    -- ---- after the walk

    default_passes : (a : Rule) (rows : List Row) → IsKnown a → Passed rows
        → Passed (with_default rows a)
    default_passes a rows k p = go (has_row a.id rows)
      where
        of_other_name : is_named a.id ≡ false → (vs : List Text)
            → Passed (default_rows a.id (reading_by a) vs rows)
        of_other_name other [] = p
        of_other_name other (v ∷ vs) =
            with_passes a.id (reading_by a) DefaultValue (v ∷ vs) rows
            (λ named. let never = sym named ∙ other in absurd (cc)) p

        filled_in : (a.defaults ≡ []) ⊎ (is_named a.id ≡ false)
            → Passed (default_rows a.id (reading_by a) a.defaults rows)
        filled_in (inl none) =
            subst (λ (vs : List Text). Passed (default_rows a.id (reading_by a) vs rows)) (sym none) p
        filled_in (inr other) = of_other_name other a.defaults

        go : (b : Bool) → Passed (cond b rows (default_rows a.id (reading_by a) a.defaults rows))
        go true = p
        go false = filled_in k.defaults

    defaults_pass : (rules : List Rule) (rows : List Row) → AllByRecursion IsKnown rules → Passed rows
        → Passed (fold with_default rows rules)
    defaults_pass [] rows k p = p
    defaults_pass (a ∷ rest) rows k p =
        defaults_pass rest (with_default rows a) k.1 (default_passes a rows k.0 p)

    -- where the level does not fail, each value that was found passed
    rows_pass : (words : List Text) → level_fault s [] nothing_held words false [] ≡ []
        → Passed (rows_after c [] words)
    rows_pass words e =
        let end = (walk c [] nothing_held words).held in
        let walks : Passed end.rows = walk_passes [] words (walk_from nothing_held) (no_first _ _ e) tt in
        defaults_pass c _ known
        (settle_passes end (no_first _ _ (no_second (walk_fault s [] (walk_from nothing_held) words) _ e))
        walks)

  -- ---- the number

  abbrev RowPassed : Row → Type 0
  RowPassed r = HavePassed r.reading r.values

  abbrev of_the_option : Row → Bool
  of_the_option r = is_named r.id

  find_passed : (rows : List Row) → Passed rows → IfSome (find of_the_option rows) RowPassed
  find_passed [] h = tt
  find_passed (r ∷ rs) h = go (is_named r.id) refl (find_passed rs h.1)
    where
      go : (b : Bool) → is_named r.id ≡ b → IfSome (find of_the_option rs) RowPassed
          → IfSome (cond b (Some r) (find of_the_option rs)) RowPassed
      go true named later = h.0 named
      go false named later = later

  without_minus-cond : (t : Text) → without_minus t ≡ cond (starts_with_minus t) (drop 1 t) t
  without_minus-cond [] = refl
  without_minus-cond (x ∷ xs) = go (x == 45)
    where
      go : (b : Bool) → unwrap_or (cond b (Some xs) None) (x ∷ xs) ≡ cond b xs (x ∷ xs)
      go true = refl
      go false = refl

  -- a number from 1 on has no minus
  unsigned_of : (t : Text) → IsSignedIn (pos low) (pos high) t → IsUnsignedIn low high (without_minus t)
  unsigned_of t h = subst (IsUnsignedIn low high) (sym (without_minus-cond t)) (go (starts_with_minus t) refl)
    where
      go : (b : Bool) → starts_with_minus t ≡ b
          → IsUnsignedIn low high (cond (starts_with_minus t) (drop 1 t) t)
      go true minus =
          let least = rw minus at h.2 in
          absurd (omega (arith, ints, positive))
      go false minus =
          let least = rw minus at h.2 in
          let most = rw minus at h.3 in
          let numeral = rw minus at h.0 in
          rw minus
          (numeral, omega (arith, ints, small), omega (arith, ints), omega (arith, ints))

  row_fits : (r : Row) → RowPassed r → IfSome (row_text r) (λ t. is_unsigned_in low high t ≡ true)
  row_fits r h =
      subst
      (λ how.
      IfSome (option_map (read_as how) (slice_get r.values 0)) (λ t. is_unsigned_in low high t ≡ true))
      (sym h.read) (go r.values h.passed)
    where
      go : (vs : List Text) → list_all fits vs ≡ true
          → IfSome (option_map (read_as reading.WithoutMinus) (slice_get vs 0))
          (λ t. is_unsigned_in low high t ≡ true)
      go [] p = tt
      go (v ∷ vs) p =
          Accepts-accepts false (vp.Unsigned low high) (without_minus v)
          (unsigned_of v (accepts-Accepts false parser v (both _ _ p).0))

  one_fits : (o : Option Row) → IfSome o RowPassed
      → IfSome (option_and_then row_text o) (λ t. is_unsigned_in low high t ≡ true)
  one_fits None h = tt
  one_fits (Some r) h = row_fits r h

  -- the value of the option that was found is a number in its range
  pub number_fits : (s : Shape) → AllByRecursion IsKnown s.rules → (words : List Text)
      → level_fault s [] nothing_held words false [] ≡ []
      → IfSome (one_of name (rows_after s.rules [] words)) (λ t. is_unsigned_in low high t ≡ true)
  number_fits s known words e =
      one_fits _ (find_passed _ (rows_pass s known words e))
