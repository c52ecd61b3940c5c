-- The chains of the records, one record earlier.
use Rattle.std.proofs.Common.{◌≡◌, ◌≢◌, ◌∙◌, ℕ, ◌<◌, ◌+◌, List, length, Option, Some, None, refl, sym, ap}
use Rattle.std.proofs.Common.{subst, arith, inl, inr, set}
use Rattle.std.proofs.lemmas.Bool.{cases_eq}
use Rattle.std.proofs.lemmas.Option.{none-some, same_Some, slice_get_within, get_or_from_slice_get}
use Rattle.std.proofs.lemmas.List.{length-set, length-replicate, get_or-replicate}
use Rattle.std.specs.Prelude.{slice_get, option_map, replicate}
use Rattle.ompt_events.specs.declared.records.Record.{Record}
use Rattle.ompt_events.specs.Places.{thread_at}
use Rattle.task_tree.proofs.LinkLemmas.{get_set_same, get_set_other}
use Rattle.task_tree.specs.Chains.{IsFirstFrom, AreChainsFrom}

pub replicate_get : {X : Type 0} (n i : ℕ) (a x : X) → slice_get (replicate n a) i ≡ Some x → x ≡ a
replicate_get n i a x is =
    let within = slice_get_within (replicate n a) i x is in
    let long = length-replicate n a in
    sym (get_or_from_slice_get (replicate n a) i x a is)
    ∙ get_or-replicate n i a a (omega (arith, within, long))

pub thread_within : (rs : List Record) (i thread : ℕ) → thread_at rs i ≡ Some thread → i < length rs
thread_within rs i thread is = by (slice_get rs i) refl
  where
    by : (o : Option Record) → slice_get rs i ≡ o → i < length rs
    by None none = absurd (none-some thread (sym (ap (option_map (λ (r : Record). r.thread)) none) ∙ is))
    by (Some r) stands = slice_get_within rs i r stands

-- before any record
pub chains_none : (rs : List Record) (firsts nexts : List ℕ) → firsts ≡ replicate 256 (length rs)
    → nexts ≡ replicate (length rs) (length rs) → AreChainsFrom rs (length rs) firsts nexts
chains_none rs firsts nexts begin links = record {
  threads = ap length begin ∙ length-replicate 256 (length rs);
  all = ap length links ∙ length-replicate (length rs) (length rs);
  narrow =
      λ i thread low is. let within = thread_within rs i thread is in absurd (omega (arith, low, within));
  begin = λ thread place is.
      let at_end =
      replicate_get 256 thread (length rs) place (sym (ap (λ l. slice_get l thread) begin) ∙ is) in
      record {
        behind = omega (arith, at_end);
        within = omega (arith, at_end);
        none = λ k low below. absurd (omega (arith, at_end, low, below));
        is = λ inside. absurd (omega (arith, at_end, inside));
      };
  goes_on =
      λ i thread place low is.
      let within = thread_within rs i thread is in absurd (omega (arith, low, within));
}

-- one record earlier
pub chains_more : (rs : List Record) (i here next : ℕ) (firsts nexts : List ℕ) → thread_at rs i ≡ Some here
    → here < 256 → AreChainsFrom rs (i + 1) firsts nexts → slice_get firsts here ≡ Some next
    → AreChainsFrom rs i (set firsts here i) (set nexts i next)
chains_more rs i here next firsts nexts is_here small are first = record {
  threads = length-set firsts here i ∙ are.threads;
  all = length-set nexts i next ∙ are.all;
  narrow = λ k thread low is. elim (cases_eq k i) [
    | inl same ↦ subst (λ t. t < 256) (sym (own thread (ap (thread_at rs) (sym same) ∙ is))) small
    | inr apart ↦ are.narrow k thread (omega (arith, low, apart)) is
  ];
  begin = λ thread place is. elim (cases_eq thread here) [
    | inl same ↦
        let there : place ≡ i =
        same_Some place i
        (sym is ∙ ap (slice_get (set firsts here i)) same
        ∙ get_set_same firsts here i (let long = are.threads in omega (arith, long, small))) in
        record {
          behind = omega (arith, there);
          within = omega (arith, there, inside);
          none = λ k low below. absurd (omega (arith, there, low, below));
          is = λ more. ap (thread_at rs) there ∙ is_here ∙ ap Some (sym same);
        }
    | inr apart ↦
        earlier thread place apart
        (are.begin thread place (sym (get_set_other firsts here thread i apart) ∙ is))
  ];
  goes_on = λ k thread place low by_thread is. elim (cases_eq k i) [
    | inl same ↦
        let place_is : next ≡ place =
        same_Some next place
        (sym (get_set_same nexts i next (let long = are.all in omega (arith, long, inside)))
        ∙ ap (slice_get (set nexts i next)) (sym same) ∙ is) in
        let thread_is = own thread (ap (thread_at rs) (sym same) ∙ by_thread) in
        let after : i + 1 ≡ k + 1 = ap (λ n. n + 1) (sym same) in
        subst (λ n. IsFirstFrom rs thread n place) after
        (subst (IsFirstFrom rs thread (i + 1)) place_is
        (subst (λ t. IsFirstFrom rs t (i + 1) next) (sym thread_is) (are.begin here next first)))
    | inr apart ↦
        are.goes_on k thread place (omega (arith, low, apart)) by_thread
        (sym (get_set_other nexts i k next apart) ∙ is)
  ];
}
  where
    inside : i < length rs
    inside = thread_within rs i here is_here

    own : (thread : ℕ) → thread_at rs i ≡ Some thread → thread ≡ here
    own thread is = same_Some thread here (sym is ∙ is_here)

    earlier : (thread place : ℕ) → thread ≢ here → IsFirstFrom rs thread (i + 1) place
        → IsFirstFrom rs thread i place
    earlier thread place apart later = record {
      behind = let low = later.behind in omega (arith, low);
      within = later.within;
      none = λ k low below is. elim (cases_eq k i) [
        | inl same ↦ apart (own thread (ap (thread_at rs) (sym same) ∙ is))
        | inr differ ↦ later.none k (omega (arith, low, differ)) below is
      ];
      is = later.is;
    }
