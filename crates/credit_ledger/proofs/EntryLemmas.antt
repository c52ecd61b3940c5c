-- Whose entries a ledger has, and whose shares they bring back.
use Rattle.std.proofs.Common.{◌≡◌, ◌∙◌, ℕ, zero, suc, ◌<◌, true, false, cond, List, [], ◌∷◌, length, take}
use Rattle.std.proofs.Common.{get_or, Option, Some, None, refl, sym, ap, subst, arith, inl, inr}
use Rattle.std.specs.Prelude.{◌==◌, is_some, slice_get}
use Rattle.std.specs.Option.{option_map, option_and_then}
use Rattle.std.proofs.lemmas.Bool.{false≢true, eqb-true, eq-eqb}
use Rattle.std.proofs.lemmas.Option.{none-some, same_Some, slice_get_within, get_or_from_slice_get}
use Rattle.ompt_events.specs.declared.records.Record.{Record}
use Rattle.ompt_events.specs.declared.records.Claim.{Claim}
use Rattle.ompt_events.specs.declared.records.Part.{Part}
use Rattle.ompt_events.specs.declared.cause.Cause.TheVariants.{ShareWrong}
use Rattle.ompt_events.specs.Records.{finish, claim}
use Rattle.ompt_events.specs.Places.{at, seen_at}
use Rattle.ompt_events.specs.Traces.{IsTrace, IsSound}
use Rattle.ompt_events.specs.Tree.{children, HasPath}
use Rattle.ompt_events.specs.Causes.{share_wrong, IsFreeOf}
use Rattle.credit_ledger.specs.declared.share.Half.{Half}
use Rattle.credit_ledger.specs.declared.entry.Entry.{Entry}
use Rattle.credit_ledger.specs.Entries.{tree_share, tree_shares, pool_share, parent_and_number, share_in_pool}
use Rattle.credit_ledger.specs.Entries.{pool_shares, is_same_path}
use Rattle.credit_ledger.proofs.CodeLemmas.{same_path-true, same_path-itself, cond_in, in_cond}
use Rattle.credit_ledger.proofs.OverLemmas.{HasEntry, has_later}
use Rattle.credit_ledger.proofs.RegionLemmas.{IsShareIn, IsShareIn-append_left, IsShareIn-append_right}
use Rattle.credit_ledger.proofs.RegionLemmas.{IsShareIn-append_cases}
use Rattle.credit_ledger.specs.TraceEntries.{claimed_entry, entry_of, IsEntryAt, IsLedgerOf}

-- ---- the first entries

pub get_take : {X : Type 0} (xs : List X) (n k : ℕ) (x : X) → slice_get (take n xs) k ≡ Some x
    → (k < n) × (slice_get xs k ≡ Some x)
get_take xs zero k x is = absurd (none-some x is)
get_take [] (suc n) k x is = absurd (none-some x is)
get_take (y ∷ xs) (suc n) zero x is = (omega arith, is)
get_take (y ∷ xs) (suc n) (suc k) x is = let rest = get_take xs n k x is in (omega (arith, rest.0), rest.1)

pub take_get : {X : Type 0} (xs : List X) (n k : ℕ) (x : X) → k < n → slice_get xs k ≡ Some x
    → slice_get (take n xs) k ≡ Some x
take_get xs zero k x less is = absurd (omega arith)
take_get [] (suc n) k x less is = absurd (none-some x is)
take_get (y ∷ xs) (suc n) zero x less is = is
take_get (y ∷ xs) (suc n) (suc k) x less is = take_get xs n k x (omega (arith, less)) is

-- ---- what an entry tells of its record

-- the record finishes the entry's task in its part, and claims what the entry has
pub record IsFrom (rs : List Record) (i : ℕ) (e : Entry) : Type 0 where
  pub claimed : Claim
  pub finishes : at finish rs i ≡ Some (e.task, e.part)
  pub claims : at claim rs i ≡ Some claimed
  pub root : e.root ≡ claimed.root
  pub path : e.path ≡ claimed.path
  pub kept : e.kept ≡ claimed.kept

pub entry_says : (rs : List Record) (i : ℕ) (e : Entry) → option_and_then entry_of (slice_get rs i) ≡ Some e
    → IsFrom rs i e
entry_says rs i e made = there (slice_get rs i) refl made
  where
    claimed : (r : Record) (f : ℕ × Part) (c : Option Claim) → slice_get rs i ≡ Some r
        → finish r.body ≡ Some f → claim r.body ≡ c → option_map (claimed_entry r.thread f) c ≡ Some e
        → IsFrom rs i e
    claimed r f None here finishes claims is = absurd (none-some e is)
    claimed r f (Some c) here finishes claims is =
        let same = same_Some (claimed_entry r.thread f c) e is in
        record {
          claimed = c;
          finishes =
              ap (option_and_then (λ (q : Record). finish q.body)) here ∙ finishes
              ∙ ap (λ (x : Entry). Some (x.task, x.part)) same;
          claims = ap (option_and_then (λ (q : Record). claim q.body)) here ∙ claims;
          root = sym (ap (λ (x : Entry). x.root) same);
          path = sym (ap (λ (x : Entry). x.path) same);
          kept = sym (ap (λ (x : Entry). x.kept) same);
        }

    finished : (r : Record) (f : Option (ℕ × Part)) → slice_get rs i ≡ Some r → finish r.body ≡ f
        → option_and_then (λ g. option_map (claimed_entry r.thread g) (claim r.body)) f ≡ Some e
        → IsFrom rs i e
    finished r None here finishes is = absurd (none-some e is)
    finished r (Some f) here finishes is = claimed r f (claim r.body) here finishes refl is

    there : (o : Option Record) → slice_get rs i ≡ o → option_and_then entry_of o ≡ Some e → IsFrom rs i e
    there None here is = absurd (none-some e is)
    there (Some r) here is = finished r (finish r.body) here refl is

-- where no claim is wrong, the entry's task stands at its path, and created as many children as it says
pub record IsRight (rs : List Record) (e : Entry) : Type 0 where
  pub stands : HasPath rs e.root e.task e.path
  pub kept : e.kept ≡ length (children rs e.task)

pub entry_right : (rs : List Record) (i : ℕ) (e : Entry) → IsFreeOf rs ShareWrong → IsFrom rs i e
    → (IsRight rs e → ⊥) → ⊥
entry_right rs i e free from wrong =
    free i (share_wrong (
      e.task,
      e.part,
      from.claimed,
      from.finishes,
      from.claims,
      λ right.
          let P : ℕ → List ℕ → Type 0 = λ r p. HasPath rs r e.task p in
          wrong (record {
            stands =
                subst (λ r. HasPath rs r e.task e.path) (sym from.root)
                (subst (λ p. HasPath rs from.claimed.root e.task p) (sym from.path) right.stands);
            kept = from.kept ∙ right.kept;
          }),
    ))

-- ---- and a finishing record of its entry

-- the record's entry, with the task and the part that it finishes
pub record IsEntryMade (rs : List Record) (i task : ℕ) (part : Part) (e : Entry) : Type 0 where
  pub made : IsEntryAt rs i (seen_at rs i) e
  pub task_is : e.task ≡ task
  pub part_is : e.part ≡ part

claim_there : (b : Option Claim) (f : Option (ℕ × Part)) (x : ℕ × Part) → is_some b ≡ is_some f → f ≡ Some x
    → (c : Claim) × (b ≡ Some c)
claim_there None f x same is = absurd (false≢true (same ∙ ap is_some is))
claim_there (Some c) f x same is = (c, refl)

pub entry_made : (rs : List Record) (i task : ℕ) (part : Part) → IsTrace rs
    → at finish rs i ≡ Some (task, part) → (e : Entry) × IsEntryMade rs i task part e
entry_made rs i task part trace finishes = there (slice_get rs i) refl finishes
  where
    there : (o : Option Record) → slice_get rs i ≡ o
        → option_and_then (λ (q : Record). finish q.body) o ≡ Some (task, part)
        → (e : Entry) × IsEntryMade rs i task part e
    there None here is = absurd (none-some (task, part) is)
    there (Some r) here is =
        let sound : IsSound (get_or rs i r).body = trace.sound i r (slice_get_within rs i r here) in
        let same : IsSound r.body =
        subst (λ (q : Record). IsSound q.body) (get_or_from_slice_get rs i r r here) sound in
        let claims = claim_there (claim r.body) (finish r.body) (task, part) same.claimed is in (
          claimed_entry r.thread (task, part) claims.0,
          record {
            made = record {
              made =
                  ap (option_and_then entry_of) here
                  ∙ ap (option_and_then (λ f. option_map (claimed_entry r.thread f) (claim r.body))) is
                  ∙ ap (option_map (claimed_entry r.thread (task, part))) claims.1;
              seen = refl;
            };
            task_is = refl;
            part_is = refl;
          },
        )

-- ---- shares of the root's credit, and of a pool

pub in_tree : (root : ℕ) (entries : List Entry) (e : Entry) → HasEntry entries e → e.root ≡ root
    → IsShareIn (tree_share e) (tree_shares root entries)
in_tree root [] e (k, is) own = absurd (none-some e is)
in_tree root (f ∷ entries) e (zero, is) own =
    let P : Entry → Type 0 = λ x. IsShareIn (tree_share e) (cond (x.root == root) (tree_share x ∷ []) []) in
    IsShareIn-append_left (tree_share e) (cond (f.root == root) (tree_share f ∷ []) [])
    (tree_shares root entries)
    (subst P (sym (same_Some f e is)) (in_cond (e.root == root) (tree_share e) (eq-eqb e.root root own)))
in_tree root (f ∷ entries) e (suc k, is) own =
    IsShareIn-append_right (tree_share e) (cond (f.root == root) (tree_share f ∷ []) [])
    (tree_shares root entries)
    (in_tree root entries e (k, is) own)

-- the entry is of this child of the task at the path
abbrev pub IsOfChild : List ℕ → Entry → ℕ → Type 0
IsOfChild parent e number = parent_and_number e.path ≡ Some (parent, number)

from_share : (parent : List ℕ) (child : Option (List ℕ × ℕ)) (part : Part) (x : List Half)
    → IsShareIn x (share_in_pool parent child part)
    → (number : ℕ) × (child ≡ Some (parent, number)) × (x ≡ pool_share number part)
from_share parent None part x there = absurd there
from_share parent (Some (up, number)) part x there =
    let is = cond_in (is_same_path up parent) x (pool_share number part) there in
    (number, ap (λ p. Some (p, number)) (same_path-true up parent is.0), is.1)

under : (b : _) (x : List Half) (xs : List (List Half)) → IsShareIn x (cond b xs [])
    → (b ≡ true) × IsShareIn x xs
under true x xs there = (refl, there)
under false x xs there = absurd there

pub from_pool : (root : ℕ) (parent : List ℕ) (entries : List Entry) (x : List Half)
    → IsShareIn x (pool_shares root parent entries)
    → (e : Entry) × (number : ℕ) × HasEntry entries e × (e.root ≡ root) × IsOfChild parent e number
    × (x ≡ pool_share number e.part)
from_pool root parent [] x there = absurd there
from_pool root parent (f ∷ entries) x there =
    elim
    (IsShareIn-append_cases x
    (cond (f.root == root) (share_in_pool parent (parent_and_number f.path) f.part) [])
    (pool_shares root parent entries) there) [
      | inl here ↦
          let is = under (f.root == root) x (share_in_pool parent (parent_and_number f.path) f.part) here in
          let of = from_share parent (parent_and_number f.path) f.part x is.1 in
          (f, of.0, (0, refl), eqb-true f.root root is.0, of.1, of.2)
      | inr rest ↦
          let found = from_pool root parent entries x rest in
          (found.0, found.1, has_later f found.0 entries found.2, found.3, found.4, found.5)
    ]

own_share : (root number : ℕ) (parent : List ℕ) (e : Entry) → e.root ≡ root → IsOfChild parent e number
    → IsShareIn (pool_share number e.part)
    (cond (e.root == root) (share_in_pool parent (parent_and_number e.path) e.part) [])
own_share root number parent e own of =
    let P : List (List Half) → Type 0 = λ xs. IsShareIn (pool_share number e.part) xs in
    let shares : cond (e.root == root) (share_in_pool parent (parent_and_number e.path) e.part) []
    ≡ cond (is_same_path parent parent) (pool_share number e.part ∷ []) [] =
    ap (λ b. cond b (share_in_pool parent (parent_and_number e.path) e.part) []) (eq-eqb e.root root own)
    ∙ ap (λ c. share_in_pool parent c e.part) of in
    subst P (sym shares)
    (in_cond (is_same_path parent parent) (pool_share number e.part) (same_path-itself parent))

pub in_pool : (root number : ℕ) (parent : List ℕ) (entries : List Entry) (e : Entry) → HasEntry entries e
    → e.root ≡ root → IsOfChild parent e number
    → IsShareIn (pool_share number e.part) (pool_shares root parent entries)
in_pool root number parent [] e (k, is) own of = absurd (none-some e is)
in_pool root number parent (f ∷ entries) e (zero, is) own of =
    let P : Entry → Type 0 =
    λ x.
    IsShareIn (pool_share number e.part)
    (cond (x.root == root) (share_in_pool parent (parent_and_number x.path) x.part) []) in
    IsShareIn-append_left (pool_share number e.part)
    (cond (f.root == root) (share_in_pool parent (parent_and_number f.path) f.part) [])
    (pool_shares root parent entries)
    (subst P (sym (same_Some f e is)) (own_share root number parent e own of))
in_pool root number parent (f ∷ entries) e (suc k, is) own of =
    IsShareIn-append_right (pool_share number e.part)
    (cond (f.root == root) (share_in_pool parent (parent_and_number f.path) f.part) [])
    (pool_shares root parent entries) (in_pool root number parent entries e (k, is) own of)

-- ---- the entries below a length

-- an entry below the length is that of a finishing record below it
pub below_from : (rs : List Record) (entries : List Entry) (n : ℕ) (e : Entry) → IsLedgerOf rs entries
    → HasEntry (take n entries) e → (i : ℕ) × (seen_at rs i < n) × IsFrom rs i e
below_from rs entries n e are (k, is) =
    let there = get_take entries n k e is in
    let made = (are k e).0 there.1 in
    let seen = made.1.seen in
    (made.0, omega (arith, there.0, seen), entry_says rs made.0 e made.1.made)

-- and the other way round
pub from_below : (rs : List Record) (entries : List Entry) (n i task : ℕ) (part : Part) (e : Entry)
    → IsLedgerOf rs entries → IsEntryMade rs i task part e → seen_at rs i < n → HasEntry (take n entries) e
from_below rs entries n i task part e are entered less =
    (seen_at rs i, take_get entries n (seen_at rs i) e less ((are (seen_at rs i) e).1 (i, entered.made)))
