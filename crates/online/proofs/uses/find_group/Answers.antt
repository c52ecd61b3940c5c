use Rattle.std.proofs.Common.{true, ℕ, ◌≡◌, ◌∙◌, ◌+◌, Some, sym, ap}
use Rattle.std.specs.Prelude.{option_map}
use Rattle.online.proofs.GroupLemmas.{some_says}
use Rattle.online.specs.declared.uses.Location.{Location}
use Rattle.online.specs.Groups.{group_at, put}
use Rattle.online.proofs.FamilyLemmas.{begun_room, open_room}
use Rattle.online.proofs.uses.find_group.Goals as goal

pub returns : goal.returns
returns c =
    let before = c.number_of-before.result in
    let (is_first, more, is_new) =
    some_says
    (λ n. (n ≡ c.args.groups.now.next) × (c.begin.new.self.next ≡ n + 1) × ((q : ℕ) → group_at
    c.begin.new.self q
    ≡ put (group_at c.args.groups.now) n (Some (record {
      left = 0;
      greatest = 0;
      floor = 0;
      before =
          before;
      needed = true;
    })) q))
    c.in_ok-number.field-0 c.in-Some-2.number c.in-Some-2.is c.in_ok-number.ensures in
    begun_room (group_at c.args.groups.now) (group_at c.begin.new.self) c.in-Some-2.number
    c.args.groups.now.next
    c.begin.new.self.next c.args.family.now c.insert.new.self c.args.used before is_first (sym more) is_new
    (c.number_of-before.ensures ∙ ap (option_map (λ (l : Location). l.last)) c.last_of.ensures)
    (λ q. c.in_ok-insert.ensures.updates.0 q)

pub returns-in-Some : goal.returns-in-Some
returns-in-Some c =
    open_room (group_at c.args.groups.now) c.args.groups.now.next c.args.family.now c.args.used
    c.in-Some.location
    c.in-Some.ensures.0 c.in-Some.ensures.1
