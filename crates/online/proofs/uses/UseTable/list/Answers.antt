use Rattle.std.proofs.Common.{ℕ, ◌∙◌, Option, Some, None, [], ◌∷◌, ◌++◌, refl}
use Rattle.std.specs.Prelude.{nat_eq, option_map}
use Rattle.std.proofs.Common.{Vec, Global}
use Rattle.std.specs.HashMap.{get}
use Rattle.online.specs.Uses.{location_in, family_at}
use Rattle.online.proofs.GroupLemmas.{put_twice}
use Rattle.online.proofs.GroupLemmas.{some_says}
use Rattle.online.specs.declared.uses.Location.{Location}
use Rattle.online.specs.Groups.{group_at, put}
use Rattle.online.specs.Uses.{numbers_of, location_of, with_family, HasPlaced, listing}
use Rattle.online.proofs.UseLemmas.{table_same}
use Rattle.online.proofs.FamilyLemmas.{map_put, family_same, family_put}
use Rattle.online.proofs.UseSteps.{table_listed}
use Rattle.online.proofs.uses.UseTable.list.Goals as goal

pub returns : goal.returns
returns c = λ yes history ends gone is unlisted alive.
    let old = c.args.self.now in
    let family = c.take_family-family.result in
    let places : ℕ → ℕ → Option Location = location_of old in
    let listed =
    table_listed history ends gone is.0 (group_at old.groups) old.groups.next (numbers_of old) places
    c.args.parent
    c.args.task unlisted is.1 in
    let begun =
    table_same (history ++ listing c.args.parent c.args.task [] ∷ []) ends gone is.0 (group_at old.groups)
    old.groups.next (put (numbers_of old) c.args.task (Some [])) (put (numbers_of old) c.args.task (Some
    [])) places
    (with_family c.args.parent family places) (λ n. refl)
    (family_same c.args.parent family places c.take_family-family.ensures.taken) listed in
    let placed =
    some_says
    (λ (v : Vec ℕ Global). HasPlaced (group_at old.groups) old.groups.next family (group_at
    c.place_all.new.groups)
    c.place_all.new.groups.next c.place_all.new.family c.args.uses.now v.items)
    c.in_ok-numbers.field-0 c.in-Some.numbers c.in-Some.is c.in_ok-numbers.ensures in
    let (now, there) =
    placed history ends gone is.0 (numbers_of old) places c.args.parent c.args.task [] [] unlisted alive
    begun in (
      now,
      table_same (history ++ listing c.args.parent c.args.task c.args.uses.now ∷ []) ends gone now
          (group_at c.place_all.new.groups) c.place_all.new.groups.next
          (put (numbers_of old) c.args.task (Some c.in-Some.numbers.items))
          (λ q. option_map (λ v. v.items) (get nat_eq c.insert-2.new.self q))
          (with_family c.args.parent c.place_all.new.family places)
          (λ p w. location_in (family_at c.insert.new.self p) w)
          (λ q. map_put (λ v. v.items) (λ m. get nat_eq old.tasks m) (λ m. get nat_eq c.insert-2.new.self
          m) c.args.task
          (Some c.in-Some.numbers) q (c.in_ok-insert-2.ensures.updates.0 q))
          (λ p w. family_put c.args.parent c.place_all.new.family (family_at old.families)
          (family_at c.insert.new.self) p w
          (c.in_ok-insert.ensures.updates.0 p ∙ put_twice (family_at old.families)
          (family_at c.take_family-family.new.families) c.args.parent None (Some c.place_all.new.family) p
          (c.take_family-family.ensures.others p)))
          there,
    )
