-- The entries hold a task's start share in the tree exactly where they finish the task and all its
-- descendants.
use Rattle.std.proofs.Common.{◌≡◌, ◌∙◌, ℕ, zero, suc, ◌<◌, ◌≤◌, ◌+◌, true, List, [], ◌∷◌, ◌++◌, length, take}
use Rattle.std.proofs.Common.{replicate, get_or, Some, refl, sym, ap, subst, arith, inl, inr, length-append}
use Rattle.std.proofs.lemmas.List.{append_assoc, append-nil, length-replicate}
use Rattle.std.proofs.lemmas.Option.{slice_get-get_or}
use Rattle.ompt_events.specs.declared.records.Record.{Record}
use Rattle.ompt_events.specs.declared.records.Part.{Part}
use Rattle.ompt_events.specs.declared.records.Part.TheVariants.{Whole, Body, Event}
use Rattle.ompt_events.specs.declared.cause.Cause.TheVariants.{CreatedTwice, ShareWrong}
use Rattle.ompt_events.specs.Places.{seen_at}
use Rattle.ompt_events.specs.Traces.{IsTrace}
use Rattle.ompt_events.specs.Tree.{children, HasPath, below}
use Rattle.ompt_events.specs.Coverage.{IsFamily}
use Rattle.ompt_events.specs.Completion.{IsPartFinished}
use Rattle.ompt_events.specs.Causes.{IsFreeOf}
use Rattle.task_tree.proofs.FamilyLemmas.{one_path}
use Rattle.credit_ledger.specs.declared.share.Half.{Half}
use Rattle.credit_ledger.specs.declared.share.Half.TheVariants.{Keep, Give}
use Rattle.credit_ledger.specs.Shares.{begins_with, start_share, finish_share, Hold}
use Rattle.credit_ledger.proofs.HalvedLemmas.{begins_with-longer}
use Rattle.credit_ledger.proofs.HoldLemmas.{span}
use Rattle.credit_ledger.proofs.RunLemmas.{start_share-append}
use Rattle.credit_ledger.specs.declared.entry.Entry.{Entry}
use Rattle.credit_ledger.specs.Entries.{part_halves, tree_share, tree_shares}
use Rattle.credit_ledger.proofs.RegionLemmas.{IsShareIn, IsSplit, split, IsSplit-begun, Passes, passes}
use Rattle.credit_ledger.proofs.RegionLemmas.{begins_with-shift}
use Rattle.credit_ledger.proofs.OverLemmas.{from_tree, held_begins}
use Rattle.credit_ledger.proofs.CodeLemmas.{start-cons}
use Rattle.credit_ledger.specs.TraceEntries.{IsLedgerOf, IsDone}
use Rattle.credit_ledger.proofs.HalfLemmas.{Meets, meet, Goes, through, aside, short, goes, hold_from}
use Rattle.credit_ledger.proofs.EntryLemmas.{IsFrom, entry_says, IsRight, entry_right, IsEntryMade}
use Rattle.credit_ledger.proofs.EntryLemmas.{entry_made}
use Rattle.credit_ledger.proofs.EntryLemmas.{in_tree, below_from, from_below}
use Rattle.credit_ledger.proofs.StandLemmas.{family_below, family_child}
use Rattle.credit_ledger.proofs.MeetLemmas.{one_of_meeting}
use Rattle.credit_ledger.proofs.CompleteLemmas.{done_or_not, missing_half}

-- what is known of a trace with its entries
pub record IsKnown (rs : List Record) (entries : List Entry) : Type 0 where
  pub trace : IsTrace rs
  pub once : IsFreeOf rs CreatedTwice
  pub right : IsFreeOf rs ShareWrong
  pub ledger : IsLedgerOf rs entries

-- ---- the share of a finished task was entered

pub right_entry : (rs : List Record) (entries : List Entry) (i task : ℕ) (part : Part) → IsKnown rs entries
    → (entered : (e : Entry) × IsEntryMade rs i task part e) → (IsRight rs entered.0 → ⊥) → ⊥
right_entry rs entries i task part known (e, entered) wrong =
    entry_right rs i e known.right (entry_says rs i e entered.made.made) wrong

-- the share that a task at the path has left at its end
abbrev left_share : List Record → ℕ → List ℕ → Part → List Half
left_share rs task path part = finish_share path (length (children rs task)) ++ part_halves part

share_entered : (rs : List Record) (entries : List Entry) (n root task : ℕ) (path : List ℕ) (part : Part)
    → IsKnown rs entries → HasPath rs root task path → IsPartFinished rs (λ k. seen_at rs k < n) task part
    → (IsShareIn (left_share rs task path part) (tree_shares root (take n entries)) → ⊥) → ⊥
share_entered rs entries n root task path part known stands (i, finishes, seen) never =
    let entered = entry_made rs i task part known.trace finishes in
    right_entry rs entries i task part known entered (λ right. never (there entered.0 entered.1 right))
  where
    there : (e : Entry) → IsEntryMade rs i task part e → IsRight rs e
        → IsShareIn (left_share rs task path part) (tree_shares root (take n entries))
    there e entered right =
        let P : ℕ → Type 0 = λ t. HasPath rs e.root t e.path in
        let one =
        one_path rs e.root root task e.path path known.once (subst P entered.task_is right.stands)
        stands in
        let share : tree_share e ≡ left_share rs task path part =
        ap (λ p. finish_share p e.kept ++ part_halves e.part) one.1
        ∙ ap (λ k. finish_share path k ++ part_halves e.part)
        (right.kept ∙ ap (λ t. length (children rs t)) entered.task_is)
        ∙ ap (λ q. finish_share path (length (children rs task)) ++ part_halves q) entered.part_is in
        let Q : List Half → Type 0 = λ x. IsShareIn x (tree_shares root (take n entries)) in
        subst Q share
        (in_tree root (take n entries) e (from_below rs entries n i task part e known.ledger entered seen)
        one.0)

-- ---- where the family is finished, a long list of halves begins with one that was entered

-- a list of halves that goes down from the head: no share that was entered is longer, and it begins with none
record IsAstray (shares : List (List Half)) (l : List Half) : Type 0 where
  pub long : (x : List Half) → IsShareIn x shares → length x ≤ length l
  pub none : (x : List Half) → IsShareIn x shares → begins_with l x ≡ true → ⊥

-- it can't end before the task's share does
too_short : (path : List ℕ) (m : ℕ) (part : Part) (shares : List (List Half)) (l r : List Half)
    → IsAstray shares l → l ≡ start_share path ++ r → length r < m + length (part_halves part)
    → IsShareIn (finish_share path m ++ part_halves part) shares → ⊥
too_short path m part shares l r astray parts less there =
    let long = astray.long (finish_share path m ++ part_halves part) there in
    let whole = length-append (finish_share path m) (part_halves part) in
    let kept = length-append (start_share path) (replicate m Keep) in
    let halves = length-replicate m Keep in
    let all = ap length parts ∙ length-append (start_share path) r in
    omega (arith, long, whole, kept, halves, all, less)

-- nor go on as the share does
goes_on : (path : List ℕ) (m : ℕ) (part : Part) (shares : List (List Half)) (l rest : List Half)
    → IsAstray shares l → l ≡ start_share path ++ (replicate m Keep ++ rest)
    → begins_with rest (part_halves part) ≡ true → IsShareIn (finish_share path m ++ part_halves part) shares
    → ⊥
goes_on path m part shares l rest astray parts begun there =
    let P : List Half → Type 0 = λ k. begins_with k (finish_share path m ++ part_halves part) ≡ true in
    let whole : l ≡ finish_share path m ++ rest =
    parts ∙ sym (append_assoc (start_share path) (replicate m Keep) rest) in
    astray.none (finish_share path m ++ part_halves part) there
    (subst P (sym whole) (begins_with-shift (finish_share path m) rest (part_halves part) ∙ begun))

at_task : (rs : List Record) (entries : List Entry) (n root task : ℕ) (path : List ℕ) (l r : List Half)
    → IsKnown rs entries → HasPath rs root task path → IsDone rs n task
    → IsAstray (tree_shares root (take n entries)) l → l ≡ start_share path ++ r
    → ((number : ℕ) (rest : List Half) → number < length (children rs task)
    → r ≡ replicate number Keep ++ Give ∷ rest → ⊥)
    → ⊥
at_task rs entries n root task path l r known stands done astray parts lower = way (goes m r)
  where
    m : ℕ
    m = length (children rs task)

    shares : List (List Half)
    shares = tree_shares root (take n entries)

    ended : length r < m → ⊥
    ended less = elim done [
      | inl whole ↦
          share_entered rs entries n root task path Whole known stands whole
          (too_short path m Whole shares l r astray parts (omega (arith, less)))
      | inr both ↦
          share_entered rs entries n root task path Body known stands both.0
          (too_short path m Body shares l r astray parts (omega (arith, less)))
    ]

    halved : (rest : List Half) → r ≡ replicate m Keep ++ rest
        → IsPartFinished rs (λ k. seen_at rs k < n) task Body
        → IsPartFinished rs (λ k. seen_at rs k < n) task Event → ⊥
    halved [] is body event =
        share_entered rs entries n root task path Body known stands body
        (too_short path m Body shares l r astray parts
        (let len = ap length is ∙ length-append (replicate m Keep) [] in
        let halves = length-replicate m Keep in omega (arith, len, halves)))
    halved (Keep ∷ z) is body event =
        share_entered rs entries n root task path Body known stands body
        (goes_on path m Body shares l (Keep ∷ z) astray (parts ∙ ap (λ s. start_share path ++ s) is) refl)
    halved (Give ∷ z) is body event =
        share_entered rs entries n root task path Event known stands event
        (goes_on path m Event shares l (Give ∷ z) astray (parts ∙ ap (λ s. start_share path ++ s) is)
        refl)

    kept : (rest : List Half) → r ≡ replicate m Keep ++ rest → ⊥
    kept rest is = elim done [
      | inl whole ↦
          share_entered rs entries n root task path Whole known stands whole
          (goes_on path m Whole shares l rest astray (parts ∙ ap (λ s. start_share path ++ s) is) refl)
      | inr both ↦ halved rest is both.0 both.1
    ]

    way : Goes m r → ⊥
    way (through rest is) = kept rest is
    way (aside number rest less is) = lower number rest less is
    way (short less) = ended less

-- down the tree, from the head on
route : (rs : List Record) (entries : List Entry) (n root head : ℕ) (l : List Half) → IsKnown rs entries
    → ((t : ℕ) → IsFamily rs head t → IsDone rs n t) → IsAstray (tree_shares root (take n entries)) l
    → (fuel task : ℕ) (path : List ℕ) (r : List Half) → HasPath rs root task path → IsFamily rs head task
    → l ≡ start_share path ++ r → length r ≤ fuel → ⊥
route rs entries n root head l known done astray zero task path r stands of parts few =
    at_task rs entries n root task path l r known stands (done task of) astray parts
    (λ number rest less is.
    let len = ap length is ∙ length-append (replicate number Keep) (Give ∷ rest) in
    omega (arith, len, few))
route rs entries n root head l known done astray (suc fuel) task path r stands of parts few =
    at_task rs entries n root task path l r known stands (done task of) astray parts (λ number rest less is.
    let child : ℕ = get_or (children rs task) number 0 in
    let there = slice_get-get_or (children rs task) number 0 less in
    let len = ap length is ∙ length-append (replicate number Keep) (Give ∷ rest) in
    let on : l ≡ start_share (path ++ number ∷ []) ++ rest =
    parts ∙ ap (λ s. start_share path ++ s) (is ∙ sym (start-cons number [] rest))
    ∙ sym (append_assoc (start_share path) (start_share (number ∷ [])) rest)
    ∙ ap (λ s. s ++ rest) (sym (start_share-append path (number ∷ []))) in
    route rs entries n root head l known done astray fuel child (path ++ number ∷ []) rest
    (below number stands there) (family_child rs head task number child of there) on
    (omega (arith, len, few)))

pub tree_held : (rs : List Record) (entries : List Entry) (n root head : ℕ) (path : List ℕ)
    → IsKnown rs entries → HasPath rs root head path → ((t : ℕ) → IsFamily rs head t → IsDone rs n t)
    → Hold (tree_shares root (take n entries)) (start_share path)
tree_held rs entries n root head path known stands done =
    hold_from (tree_shares root (take n entries)) (start_share path) (λ l begins long none.
    from l
    (IsSplit-begun l (start_share path) []
    (subst (λ s. begins_with l s ≡ true) (sym (append-nil (start_share path))) begins))
    (record { long = long; none = none }))
  where
    from : (l : List Half) → IsSplit l (start_share path) [] → IsAstray (tree_shares root (take n entries)) l
        → ⊥
    from l (split r is begun) astray =
        route rs entries n root head l known done astray (length r) head path r stands (inl refl) is
        (omega arith)

-- ---- where they hold it, each task of the family is finished

-- the list of halves that only a missing share of the task begins
abbrev missing_list : List ℕ → ℕ → Half → List (List Half) → List Half
missing_list path m h shares = start_share path ++ (replicate m Keep ++ h ∷ replicate (span shares) Keep)

-- an entry with whose share it begins is one of the task
no_entry : (rs : List Record) (entries : List Entry) (n root task i : ℕ) (path : List ℕ) (h : Half)
    (z : List Half) (e : Entry)
    → IsKnown rs entries → HasPath rs root task path
    → ((part : Part) (y : List Half) → begins_with (h ∷ y) (part_halves part) ≡ true
    → IsPartFinished rs (λ k. seen_at rs k < n) task part → ⊥)
    → seen_at rs i < n → IsFrom rs i e → IsRight rs e → e.root ≡ root
    → Meets (length (children rs task)) e.kept (h ∷ z) (part_halves e.part) path e.path → ⊥
no_entry rs entries n root task i path h z e known stands missing seen from right own meeting =
    let P : ℕ → Type 0 = λ r. HasPath rs r e.task e.path in
    let Q : ℕ → Type 0 = λ k. Meets (length (children rs task)) k (h ∷ z) (part_halves e.part) path e.path in
    let one =
    one_of_meeting rs root task e.task path e.path (h ∷ z) (part_halves e.part) stands
    (subst P own right.stands) (subst Q right.kept meeting) in
    missing e.part z one.begun (i, from.finishes ∙ ap (λ t. Some (t, e.part)) (sym one.task_is), seen)

not_missing : (rs : List Record) (entries : List Entry) (n root head task : ℕ) (path : List ℕ)
    → IsKnown rs entries → HasPath rs root head path
    → Hold (tree_shares root (take n entries)) (start_share path) → IsFamily rs head task
    → (IsDone rs n task → ⊥) → ⊥
not_missing rs entries n root head task path known stands held of not_done =
    let shares : List (List Half) = tree_shares root (take n entries) in
    let lower = family_below rs root head task path stands of in
    let half = missing_half rs n task not_done in
    let m : ℕ = length (children rs task) in
    let l : List Half = missing_list (path ++ lower.more) m half.0 shares in
    let parts : l
    ≡ start_share path
    ++ (start_share lower.more ++ (replicate m Keep ++ half.0 ∷ replicate (span shares) Keep)) =
    ap (λ s. s ++ (replicate m Keep ++ half.0 ∷ replicate (span shares) Keep))
    (start_share-append path lower.more)
    ∙ append_assoc (start_share path) (start_share lower.more)
    (replicate m Keep ++ half.0 ∷ replicate (span shares) Keep) in
    let begins : begins_with l (start_share path) ≡ true =
    subst (λ s. begins_with s (start_share path) ≡ true) (sym parts)
    (begins_with-longer (start_share path)
    (start_share lower.more ++ (replicate m Keep ++ half.0 ∷ replicate (span shares) Keep))) in
    let whole =
    length-append (start_share (path ++ lower.more))
    (replicate m Keep ++ half.0 ∷ replicate (span shares) Keep) in
    let kept = length-append (replicate m Keep) (half.0 ∷ replicate (span shares) Keep) in
    let filled = length-replicate (span shares) Keep in
    entry_there half.0 (path ++ lower.more) lower.there half.1
    (held_begins shares (start_share path) l held begins (omega (arith, whole, kept, filled)))
  where
    entry_there : (h : Half) (p : List ℕ) → HasPath rs root task p
        → ((part : Part) (y : List Half) → begins_with (h ∷ y) (part_halves part) ≡ true
        → IsPartFinished rs (λ k. seen_at rs k < n) task part → ⊥)
        → Passes
        (λ t.
        begins_with (missing_list p (length (children rs task)) h (tree_shares root (take n entries)))
        t)
        (tree_shares root (take n entries))
        → ⊥
    entry_there h p stands missing (passes x there begun) =
        let found = from_tree root (take n entries) x there in
        let e : Entry = found.0 in
        let made = below_from rs entries n e known.ledger found.1 in
        let is : x ≡ start_share e.path ++ (replicate e.kept Keep ++ part_halves e.part) =
        found.3 ∙ append_assoc (start_share e.path) (replicate e.kept Keep) (part_halves e.part) in
        let shares : List (List Half) = tree_shares root (take n entries) in
        let meeting =
        meet (length (children rs task)) e.kept (h ∷ replicate (span shares) Keep) (part_halves e.part) p
        e.path
        (subst (λ s. begins_with (missing_list p (length (children rs task)) h shares) s ≡ true) is begun) in
        entry_right rs made.0 e known.right made.2 (λ right.
        no_entry rs entries n root task made.0 p h (replicate (span shares) Keep) e known stands missing
        made.1 made.2 right found.2 meeting)

pub tree_done : (rs : List Record) (entries : List Entry) (n root head task : ℕ) (path : List ℕ)
    → IsKnown rs entries → HasPath rs root head path
    → Hold (tree_shares root (take n entries)) (start_share path) → IsFamily rs head task → IsDone rs n task
tree_done rs entries n root head task path known stands held of = elim (done_or_not rs n task) [
  | inl done ↦ done
  | inr not_done ↦ absurd (not_missing rs entries n root head task path known stands held of not_done)
]
