-- How a task's path is climbed.
use Rattle.std.proofs.Common.{◌≡◌, ◌∙◌, ℕ, ◌<◌, ◌≤◌, ◌+◌, List, [], ◌∷◌, ◌++◌, length, get_or, reverse}
use Rattle.std.proofs.Common.{Option, Some, None, refl, sym, ap, subst, arith, inl, inr, ◌⊎◌, length-append}
use Rattle.std.proofs.lemmas.Option.{none-some, same_Some, slice_get_within, slice_get-get_or, slice_get_read}
use Rattle.std.proofs.lemmas.List.{append_assoc, append-nil, reverse-reverse, reverse-append}
use Rattle.std.specs.Prelude.{◌↔◌, slice_get, Contains, option_map, option_and_then}
use Rattle.std.specs.Global.{Vec}
use Rattle.ompt_events.specs.declared.records.Record.{Record}
use Rattle.ompt_events.specs.Places.{at}
use Rattle.ompt_events.specs.Records.{made, begun_root, created}
use Rattle.ompt_events.specs.Causes.{rootless, unrooted}
use Rattle.ompt_events.proofs.RecordLemmas.{made_cases}
use Rattle.ompt_events.specs.Tree.{root, HasPath, top, below, IsChild}
use Rattle.ompt_events.proofs.ListLemmas.{get_contains}
use Rattle.ompt_events.proofs.TreeLemmas.{child_place}
use Rattle.task_tree.specs.declared.links.Link.{Link}
use Rattle.task_tree.specs.Family.{FamilyView, IsFamilyOf}
use Rattle.task_tree.specs.Paths.{ArePaths, IsClimbed}
use Rattle.task_tree.specs.declared.roots.Standing.{Standing}
use Rattle.task_tree.proofs.OnceLemmas.{one_number}
use Rattle.task_tree.proofs.FamilyLemmas.{link_found, link_child, path_noted}

-- before the first step
pub climb_start : (rs : List Record) (tasks : List ℕ) (r task index : ℕ) (path numbers : List ℕ)
    → slice_get tasks index ≡ Some task → HasPath rs r task path → numbers ≡ []
    → IsClimbed rs tasks r path 0 index numbers
climb_start rs tasks r task index path numbers here stands empty = record {
  current = task;
  up = path;
  passed = [];
  here = here;
  parts = sym (append-nil path);
  stands = stands;
  reversed = empty;
  all = refl;
}

-- the last number of a path, if it has one
last_step : (rs : List Record) (r current : ℕ) (up : List ℕ) → HasPath rs r current up
    → (up ≡ [])
    ⊎ ((number parent : ℕ) × (rest : List ℕ) × (up ≡ rest ++ number ∷ []) × HasPath rs r parent rest
    × IsChild rs parent number current)
last_step rs r current up (top is) = inl refl
last_step rs r current up (below number {parent = parent} {path = rest} stands child) =
    inr (number, parent, rest, refl, stands, child)

-- not at the root there is one
more_steps : (rs : List Record) (tasks : List ℕ) (r steps index : ℕ) (path numbers : List ℕ)
    → (climbed : IsClimbed rs tasks r path steps index numbers) → steps < length path → climbed.up ≡ [] → ⊥
more_steps rs tasks r steps index path numbers climbed short empty =
    let same = ap length (climbed.parts ∙ ap (λ l. l ++ climbed.passed) empty) in
    let all = climbed.all in
    omega (arith, same, all, short)

-- one step up
pub climb_more : (rs : List Record) (family : FamilyView) (r index steps : ℕ) (path numbers : List ℕ)
    (link : Link)
    → IsFamilyOf rs family → IsClimbed rs family.tasks r path steps index numbers → steps < length path
    → slice_get family.links index ≡ Some (Some link)
    → IsClimbed rs family.tasks r path (steps + 1) link.parent (numbers ++ link.number ∷ [])
climb_more rs family r index steps path numbers link are climbed short is_link =
    elim (last_step rs r climbed.current climbed.up climbed.stands) [
      | inl empty ↦ absurd (more_steps rs family.tasks r steps index path numbers climbed short empty)
      | inr (number, parent, rest, is, stands, child) ↦
          let of = link_child rs family climbed.current link are (index, climbed.here, is_link) in
          let same = one_number rs climbed.current of.0 parent link.number number are.once of.2 child in
          record {
            current = parent;
            up = rest;
            passed = number ∷ climbed.passed;
            here = of.1 ∙ ap Some same.0;
            parts =
                climbed.parts ∙ ap (λ l. l ++ climbed.passed) is
                ∙ append_assoc rest (number ∷ []) climbed.passed;
            stands = stands;
            reversed =
                ap (λ l. l ++ link.number ∷ []) climbed.reversed
                ∙ ap (λ n. reverse climbed.passed ++ n ∷ []) same.1
                ∙ sym (reverse-append (number ∷ []) climbed.passed);
            all = let all = climbed.all in omega (arith, all);
          }
    ]

-- a task that stands below its root has a link
pub climb_link : (rs : List Record) (family : FamilyView) (r index steps : ℕ) (path numbers : List ℕ)
    → IsFamilyOf rs family → IsClimbed rs family.tasks r path steps index numbers → steps < length path
    → (link : Link) × (slice_get family.links index ≡ Some (Some link))
climb_link rs family r index steps path numbers are climbed short =
    elim (last_step rs r climbed.current climbed.up climbed.stands) [
      | inl empty ↦ absurd (more_steps rs family.tasks r steps index path numbers climbed short empty)
      | inr (number, parent, rest, is, stands, child) ↦
          let place = child_place rs parent (length rs) number climbed.current child in
          let found = link_found rs family place.0 parent climbed.current are place.2 in (
            found.0,
            ap (slice_get family.links)
                (are.makers.apart index found.1.0 climbed.current climbed.here found.1.1)
                ∙ found.1.2,
          )
    ]

-- at the root all numbers are passed
pub climbed_all : (rs : List Record) (tasks : List ℕ) (r index steps : ℕ) (path numbers : List ℕ)
    → IsClimbed rs tasks r path steps index numbers → length path ≤ steps → reverse numbers ≡ path
climbed_all rs tasks r index steps path numbers climbed enough = from climbed.up climbed.parts
  where
    from : (up : List ℕ) → path ≡ up ++ climbed.passed → reverse numbers ≡ path
    from [] parts = ap reverse climbed.reversed ∙ reverse-reverse climbed.passed ∙ sym parts
    from (x ∷ xs) parts =
        absurd
        (let same = ap length parts ∙ length-append (x ∷ xs) climbed.passed in
        let all = climbed.all in omega (arith, same, all, enough))

-- ---- the stored paths

-- what a record makes is a root or a created task
made_at : (rs : List Record) (i task : ℕ) → at made rs i ≡ Some task
    → (at begun_root rs i ≡ Some task) ⊎ (at created rs i ≡ Some task)
made_at rs i task makes = there (slice_get rs i) makes
  where
    there : (o : Option Record) → option_and_then (λ (r : Record). made r.body) o ≡ Some task
        → (option_and_then (λ (r : Record). begun_root r.body) o ≡ Some task)
        ⊎ (option_and_then (λ (r : Record). created r.body) o ≡ Some task)
    there None is = absurd (none-some task is)
    there (Some r) is = made_cases task r.body is

-- each task of a family has a root
has_root : (rs : List Record) (family : FamilyView) (task index : ℕ) → IsFamilyOf rs family
    → slice_get family.tasks index ≡ Some task → slice_get family.roots index ≡ Some None → ⊥
has_root rs family task index are is none =
    let maker = are.noted.only task (get_contains family.tasks task index is) in
    elim (made_at rs maker.0 task maker.2) [
      | inl begins ↦ are.roots.unrooted index task is none (root (maker.0, begins))
      | inr creates ↦
          are.rooted maker.0 (rootless (unrooted task creates (are.roots.unrooted index task is none)))
    ]

pub root_known : (rs : List Record) (family : FamilyView) (task index : ℕ) → IsFamilyOf rs family
    → slice_get family.tasks index ≡ Some task → (r : ℕ) × (path : List ℕ) × HasPath rs r task path
root_known rs family task index are is =
    of (get_or family.roots index None)
    (slice_get-get_or family.roots index None
    (let within = slice_get_within family.tasks index task is in
    omega (arith, within, are.roots.all)))
  where
    of : (o : Option Standing) → slice_get family.roots index ≡ Some o
        → (r : ℕ) × (path : List ℕ) × HasPath rs r task path
    of None e = absurd (has_root rs family task index are is e)
    of (Some standing) e =
        let stands = are.roots.rooted index task standing is e in (standing.root, stands.0, stands.1)

pub path_is : (rs : List Record) (family : FamilyView) (paths : List (Vec ℕ)) (task index : ℕ) (found : Vec ℕ)
    → IsFamilyOf rs family → ArePaths rs family.tasks paths → slice_get family.tasks index ≡ Some task
    → index < length paths → found ≡ get_or paths index found → (path : List ℕ)
    → (Some found.items ≡ Some path) ↔ ((r : ℕ) × HasPath rs r task path)
path_is rs family paths task index found of_records are is within read path = (
  λ says.
      let known = root_known rs family task index of_records is in
      let P : List ℕ → Type 0 = λ p. HasPath rs known.0 task p in
      (known.0, subst P (sym (stored known.0 known.1 known.2) ∙ same_Some found.items path says) known.2),
  λ (r, stands). ap Some (stored r path stands),
)
  where
    stored : (r : ℕ) (p : List ℕ) → HasPath rs r task p → found.items ≡ p
    stored r p stands =
        same_Some found.items p
        (sym
        (ap (option_map (λ (l : Vec ℕ). l.items))
        (slice_get_read paths (length paths) index found refl within read))
        ∙ are.each index task r p is stands)

pub path_none : (rs : List Record) (family : FamilyView) (task : ℕ) → IsFamilyOf rs family
    → (Contains family.tasks task → ⊥) → (path : List ℕ)
    → (None ≡ Some path) ↔ ((r : ℕ) × HasPath rs r task path)
path_none rs family task are none path = (
  λ says. absurd (none-some path says),
  λ (r, stands). absurd (none (path_noted rs family.tasks r task path are.noted stands)),
)
