-- A place more at the start of a list of places.
use Rattle.std.proofs.Common.{◌≡◌, ◌∙◌, ◌<◌, ◌≤◌, ◌+◌, ℕ, List, length, Option, Some, None, refl, sym, ap}
use Rattle.std.proofs.Common.{arith, inl, inr, set}
use Rattle.std.proofs.lemmas.Bool.{cases_eq, cases_lt}
use Rattle.std.proofs.lemmas.Option.{none-some, same_Some, slice_get_cases}
use Rattle.std.proofs.lemmas.List.{length-set, get_or-set_same, get_or-set_other}
use Rattle.std.specs.Option.{option_map_or}
use Rattle.std.specs.Prelude.{slice_get, slice_index, option_map}
use Rattle.ompt_events.specs.declared.records.Record.{Record}
use Rattle.ompt_events.specs.declared.cause.Cause.TheVariants.{LengthAhead}
use Rattle.ompt_events.specs.Places.{seen_at}
use Rattle.ompt_events.specs.Causes.{entries_in, ledger_length, length_ahead, IsFreeOf}
use Rattle.checker.specs.Merge.{named_length}
use Rattle.checker.specs.Lists.{AreLists, LeadsOn}

-- the place ahead of those of its list
pub lists_more : (key : ℕ → Option ℕ) (n k at : ℕ) (firsts nexts : List ℕ) → length nexts ≡ n → at < n
    → k < length firsts → key at ≡ Some k → AreLists key n (at + 1) firsts nexts
    → AreLists key n at (set firsts k at) (set nexts at (slice_index firsts k))
lists_more key n k at firsts nexts all within low is lists = record {
  first = λ other inside. elim (cases_eq other k) [
    | inl same ↦ rw (same, get_or-set_same firsts k at 0 low) (record {
      behind = omega arith;
      within = omega arith;
      none = λ i from below. absurd (omega arith);
      found = λ inside'. is;
    })
    | inr apart ↦
        let old = lists.first other (rw (length-set firsts k at) at inside) in
        rw (get_or-set_other firsts k other at 0 apart) (record {
          behind = let h = old.behind in omega (arith, h);
          within = old.within;
          none = λ i from below there. elim (cases_eq i at) [
            | inl same ↦ apart (same_Some other k (sym there ∙ ap key same ∙ is))
            | inr beyond ↦ old.none i (omega arith) below there
          ];
          found = old.found;
        })
  ];
  next = λ i other from below there. elim (cases_eq i at) [
    | inl same ↦
        let same_key : other ≡ k = same_Some other k (sym there ∙ ap key same ∙ is) in
        rw (same, same_key, get_or-set_same nexts at (slice_index firsts k) 0 (rw all within))
        (lists.first k low)
    | inr beyond ↦
        rw (get_or-set_other nexts at i (slice_index firsts k) 0 beyond)
        (lists.next i other (omega arith) below there)
  ];
}

pub rising_more : (n at next : ℕ) (nexts : List ℕ) → at < next → LeadsOn n nexts
    → LeadsOn n (set nexts at next)
rising_more n at next nexts behind rising = record {
  all = length-set nexts at next ∙ rising.all;
  later = λ i low. elim (cases_eq i at) [
    | inl same ↦ rw (same, get_or-set_same nexts at next 0 (rw (rising.all, ← same) low)) behind
    | inr apart ↦ rw (get_or-set_other nexts at i next 0 apart) (rising.later i low)
  ];
}

-- a place without a key
pub lists_other : (key : ℕ → Option ℕ) (n at : ℕ) (firsts nexts : List ℕ) → key at ≡ None
    → AreLists key n (at + 1) firsts nexts → AreLists key n at firsts nexts
lists_other key n at firsts nexts none lists = record {
  first = λ k low.
      let old = lists.first k low in
      record {
        behind = let h = old.behind in omega (arith, h);
        within = old.within;
        none = λ i from below there. elim (cases_eq i at) [
          | inl same ↦ none-some k (sym none ∙ ap key (sym same) ∙ there)
          | inr beyond ↦ old.none i (omega arith) below there
        ];
        found = old.found;
      };
  next = λ i k from below there. elim (cases_eq i at) [
    | inl same ↦ absurd (none-some k (sym none ∙ ap key (sym same) ∙ there))
    | inr beyond ↦ lists.next i k (omega arith) below there
  ];
}

-- ---- the keys

seen_is : (rs : List Record) (i k : ℕ) → named_length rs i ≡ Some k → seen_at rs i ≡ k
seen_is rs i k names = is (slice_get rs i) refl
  where
    is : (o : Option Record) → slice_get rs i ≡ o → seen_at rs i ≡ k
    is None e = absurd (none-some k (sym (ap (option_map (λ (r : Record). r.seen)) e) ∙ names))
    is (Some r) e =
        ap (λ o. option_map_or (λ (q : Record). q.seen) o 0) e
        ∙ same_Some r.seen k (sym (ap (option_map (λ (q : Record). q.seen)) e) ∙ names)

-- no record names a greater length than there are entries
pub length_within : (rs : List Record) (i k : ℕ) → IsFreeOf rs LengthAhead → named_length rs i ≡ Some k
    → k ≤ entries_in rs
length_within rs i k reached names = elim (cases_lt (entries_in rs) (seen_at rs i)) [
  | inl past ↦ absurd (reached i (length_ahead (ledger_length past)))
  | inr bound ↦ let is = seen_is rs i k names in omega (arith, bound, is)
]

pub no_some : (o : Option ℕ) → ((k : ℕ) → o ≡ Some k → ⊥) → o ≡ None
no_some None none = refl
no_some (Some k) none = absurd (none k refl)

-- the length that the record at a place names
pub names_length : (rs : List Record) (i seen : ℕ) → i < length rs → seen ≡ seen_at rs i
    → named_length rs i ≡ Some seen
names_length rs i seen within is = elim (slice_get_cases rs i).1 [
  | inl (r, inside, stands, same) ↦
      ap (option_map (λ (q : Record). q.seen)) stands
      ∙ ap Some (sym (is ∙ ap (λ (o : Option Record). option_map_or (λ (q : Record). q.seen) o 0) stands))
  | inr past ↦ absurd (let end = past.0 in omega (arith, end, within))
]
