-- The standing that a slot holds.
use Rattle.std.specs.Prelude.{◌≡◌, Option, Some, None}
use Rattle.std.proofs.Common.{refl}
use Rattle.task_tree.specs.declared.roots.Standing.{Standing}
use Rattle.task_tree.specs.declared.standing_slot.Content.{Content}
use Rattle.task_tree.specs.declared.standing_slot.Content.TheVariants.{Nothing, Stands}

abbrev pub standing_in : Content → Option Standing
standing_in Nothing = None
standing_in (Stands depth root) = Some (record { depth = depth; root = root })

abbrev pub content_of : Option Standing → Content
content_of None = Nothing
content_of (Some standing) = Stands standing.depth standing.root

-- each content is that of what it stands for
pub content_again : {X : Type 0} (make : Content → X) (content : Content)
    → make (content_of (standing_in content)) ≡ make content
content_again make Nothing = refl
content_again make (Stands depth root) = refl
