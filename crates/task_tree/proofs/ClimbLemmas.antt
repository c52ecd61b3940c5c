-- Whether the path that is climbed from a task is another one.
use Rattle.std.proofs.Common.{◌≡◌, ◌≢◌, ◌∙◌, ℕ, suc, ◌<◌, ◌+◌, ◌-◌, Bool, List, [], ◌∷◌, ◌++◌, length, drop}
use Rattle.std.proofs.Common.{get_or, reverse, Option, Some, None, refl, sym, ap, subst, arith, length-append}
use Rattle.std.proofs.lemmas.Option.{none-some, same_Some, get_or_from_slice_get}
use Rattle.std.proofs.lemmas.List.{reverse-reverse, reverse-append}
use Rattle.std.proofs.Math.Seq.{drop-cons}
use Rattle.std.specs.Prelude.{◌↔◌, IsTrue, slice_get}
use Rattle.ompt_events.specs.declared.records.Record.{Record}
use Rattle.ompt_events.specs.Tree.{HasPath}
use Rattle.task_tree.specs.declared.links.Link.{Link}
use Rattle.task_tree.specs.declared.roots.Standing.{Standing}
use Rattle.task_tree.specs.Family.{FamilyView, IsFamilyOf}
use Rattle.task_tree.specs.Paths.{IsClimbed}
use Rattle.task_tree.proofs.FamilyLemmas.{one_path, standing_here}
use Rattle.task_tree.proofs.PathLemmas.{climb_more, climb_link, root_known}

-- so many steps are climbed, and the numbers that were passed are the last ones of the path
pub record IsClimbing (rs : List Record) (tasks : List ℕ) (root : ℕ) (whole path : List ℕ) (steps index : ℕ) :
    Type 0 where
  pub numbers : List ℕ
  pub climbed : IsClimbed rs tasks root whole steps index numbers
  pub same : reverse numbers ≡ drop (length path - steps) path

get_mid : (xs ys : List ℕ) (y d : ℕ) → get_or (xs ++ y ∷ ys) (length xs) d ≡ y
get_mid [] ys y d = refl
get_mid (x ∷ xs) ys y d = get_mid xs ys y d

-- the number that the path has where a step arrives
pub number_above : (path : List ℕ) (len steps number : ℕ) → len ≡ length path
    → slice_get path (len - 1 - steps) ≡ Some number → get_or path (length path - 1 - steps) number ≡ number
number_above path len steps number long is =
    get_or_from_slice_get path (length path - 1 - steps) number number
    (subst (λ n. slice_get path (n - 1 - steps) ≡ Some number) long is)

-- the number at which a step arrives
pub climbing_more : (rs : List Record) (family : FamilyView) (root index steps d : ℕ) (whole path : List ℕ)
    (link : Link)
    → IsFamilyOf rs family → length whole ≡ length path → steps < length path
    → slice_get family.links index ≡ Some (Some link) → link.number ≡ get_or path (length path - 1 - steps) d
    → IsClimbing rs family.tasks root whole path steps index
    → IsClimbing rs family.tasks root whole path (steps + 1) link.parent
climbing_more rs family root index steps d whole path link are long short is same climbing = record {
  numbers = climbing.numbers ++ link.number ∷ [];
  climbed =
      climb_more rs family root index steps whole climbing.numbers link are climbing.climbed
      (omega (arith, long, short)) is;
  same =
      let k : ℕ = length path - 1 - steps in
      let before : suc k ≡ length path - steps = omega (arith, short) in
      let after : k ≡ length path - (steps + 1) = omega (arith, short) in
      reverse-append climbing.numbers (link.number ∷ [])
      ∙ ap (λ l. link.number ∷ l) (climbing.same ∙ ap (λ j. drop j path) (sym before))
      ∙ ap (λ n. n ∷ drop (suc k) path) same
      ∙ sym (drop-cons path k d (omega (arith, short)))
      ∙ ap (λ j. drop j path) after;
}

-- a step that arrives elsewhere shows another path
pub climbing_other : (rs : List Record) (family : FamilyView) (root index steps d : ℕ) (whole path : List ℕ)
    (link : Link)
    → IsFamilyOf rs family → length whole ≡ length path → steps < length path
    → slice_get family.links index ≡ Some (Some link) → link.number ≢ get_or path (length path - 1 - steps) d
    → IsClimbing rs family.tasks root whole path steps index → whole ≡ path → ⊥
climbing_other rs family root index steps d whole path link are long short is other climbing equal =
    let climbed =
    climb_more rs family root index steps whole climbing.numbers link are climbing.climbed
    (omega (arith, long, short)) is in
    let passed : climbed.passed ≡ link.number ∷ reverse climbing.numbers =
    sym (reverse-reverse climbed.passed) ∙ ap reverse (sym climbed.reversed)
    ∙ reverse-append climbing.numbers (link.number ∷ []) in
    let parts : path ≡ climbed.up ++ link.number ∷ reverse climbing.numbers =
    sym equal ∙ climbed.parts ∙ ap (λ l. climbed.up ++ l) passed in
    let all = climbed.all in
    let sum : length whole ≡ length climbed.up + length climbed.passed =
    ap length climbed.parts ∙ length-append climbed.up climbed.passed in
    let there : length climbed.up ≡ length path - 1 - steps = omega (arith, all, sum, long, short) in
    other
    (sym (get_mid climbed.up (reverse climbing.numbers) link.number d)
    ∙ ap (λ l. get_or l (length climbed.up) d) (sym parts) ∙ ap (λ j. get_or path j d) there)

pub climbing_link : (rs : List Record) (family : FamilyView) (root index steps : ℕ) (whole path : List ℕ)
    → IsFamilyOf rs family → length whole ≡ length path → steps < length path
    → IsClimbing rs family.tasks root whole path steps index
    → (link : Link) × (slice_get family.links index ≡ Some (Some link))
climbing_link rs family root index steps whole path are long short climbing =
    climb_link rs family root index steps whole climbing.numbers are climbing.climbed
    (omega (arith, long, short))

-- ---- where a task stands

-- what stands in the table is where the task stands
pub standing_there : (rs : List Record) (family : FamilyView) (index task root : ℕ) (path : List ℕ)
    (found : Option Standing) (standing : Standing)
    → IsFamilyOf rs family → slice_get family.tasks index ≡ Some task
    → ((s : Standing) → (found ≡ Some s) ↔ (slice_get family.roots index ≡ Some (Some s)))
    → found ≡ Some standing → HasPath rs root task path
    → (standing.root ≡ root) × (standing.depth ≡ length path)
standing_there rs family index task root path found standing are here told is stands =
    let known = standing_here rs family index task found are here told root path stands in
    let same = same_Some known.0 standing (sym known.1 ∙ is) in
    (ap (λ (s : Standing). s.root) (sym same) ∙ known.2, ap (λ (s : Standing). s.depth) (sym same) ∙ known.3)

-- and there is something
pub standing_none : (rs : List Record) (family : FamilyView) (index task root : ℕ) (path : List ℕ)
    (found : Option Standing)
    → IsFamilyOf rs family → slice_get family.tasks index ≡ Some task
    → ((s : Standing) → (found ≡ Some s) ↔ (slice_get family.roots index ≡ Some (Some s))) → found ≡ None
    → HasPath rs root task path → ⊥
standing_none rs family index task root path found are here told none stands =
    let known = standing_here rs family index task found are here told root path stands in
    none-some known.0 (sym none ∙ known.1)

-- the path that is climbed is the task's
pub path_by : (rs : List Record) (family : FamilyView) (index task root : ℕ) (path : List ℕ)
    (found : Option Standing) (standing : Standing) (climbs : Bool)
    → IsFamilyOf rs family → slice_get family.tasks index ≡ Some task
    → ((s : Standing) → (found ≡ Some s) ↔ (slice_get family.roots index ≡ Some (Some s)))
    → found ≡ Some standing → standing.root ≡ root → standing.depth ≡ length path
    → ((r : ℕ) (whole : List ℕ) → HasPath rs r task whole → length whole ≡ length path
    → IsTrue climbs ↔ (whole ≡ path))
    → IsTrue climbs ↔ HasPath rs root task path
path_by rs family index task root path found standing climbs are here told is own deep same =
    let known = root_known rs family task index are here in
    let there = standing_there rs family index task known.0 known.1 found standing are here told is known.2 in
    let way = same known.0 known.1 known.2 (sym there.1 ∙ deep) in (
      λ yes.
          subst (λ p. HasPath rs root task p) (way.0 yes)
          (subst (λ r. HasPath rs r task known.1) (sym there.0 ∙ own) known.2),
      λ stands. way.1 (one_path rs known.0 root task known.1 path are.once known.2 stands).1,
    )
