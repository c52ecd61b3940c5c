use Rattle.std.proofs.Common.{◌≡◌, ◌≤◌, [], ◌++◌, true, false, List, ℕ, length, sym, ap, ◌∙◌, arith}
use Rattle.std.proofs.lemmas.List.{length-map}
use Rattle.json.specs.Print.{quoted}
use Rattle.serde_json.specs.Written.{comma_if}
use Rattle.lines.specs.Texts.{Takes, flag_names}
use Rattle.ompt_events.specs.Flags.{has_flag}
use Rattle.lines.proofs.ItemLemmas.{row-plain, no_flag_left}
use Rattle.lines.proofs.TakeLemmas.{Takes-both, Takes-names, IsRead-none, IsRead-with, IsRead-without}
use Rattle.lines.proofs.parts.flags_in_order.Goals as goal
use Rattle.lines.proofs.parts.flags_in_order.Goals.{then-contains+in_ok-next_item+in_ok-rest-2}
use Rattle.lines.proofs.parts.flags_in_order.Goals.{else-contains}

pub name-requires : goal.name-requires
name-requires g c =
    row-plain (λ f. (f.name.now, g.F.Flags.set_of f.value)) c.flags-flag-items.result.now g.F.Flags.table
    c.named.flag-index c.flag-item.result (c.flags-flag-items.ensures c.requires.exact) c.named-test.true
    c.flag-item.is c.requires.plain

pub named-init : goal.named-init
named-init g c =
    IsRead-none (flag_names g.F.Flags.table (g.F.Flags.set_of c.args.flags)) c.args.rest.now
    c.in_ok-rest.rest.now [] c.in_ok-rest.ensures

pub named-preserved : goal.named-preserved
named-preserved g c =
    elim c.if-contains.branch [
      | then-contains+in_ok-next_item+in_ok-rest-2 w ↦
          let has : has_flag (g.F.Flags.set_of c.args.flags) (g.F.Flags.set_of c.flag-item.result.value)
          ≡ true =
          sym (c.contains.ensures c.requires.exact) ∙ w.if-contains.true in
          let takes : Takes c.named.rest.now (comma_if c.named.later ++ quoted c.flag-item.result.name.now)
          w.in_ok-rest-2.rest.now =
          Takes-both _ _ _ _ _ w.in_ok-next_item.ensures w.in_ok-rest-2.ensures in
          rw (w.rest-is, w.later-is)
          (IsRead-with (λ f. (f.name.now, g.F.Flags.set_of f.value)) c.flags-flag-items.result.now
          g.F.Flags.table (g.F.Flags.set_of c.args.flags) c.named.flag-index c.flag-item.result
          c.named.later c.args.rest.now c.named.rest.now w.in_ok-rest-2.rest.now _
          (c.flags-flag-items.ensures c.requires.exact) c.named-test.true c.flag-item.is
          c.named.invariant has takes)
      | else-contains w ↦
          let has : has_flag (g.F.Flags.set_of c.args.flags) (g.F.Flags.set_of c.flag-item.result.value)
          ≡ false =
          sym (c.contains.ensures c.requires.exact) ∙ w.if-contains.false in
          rw (w.rest-is, w.later-is)
          (IsRead-without (λ f. (f.name.now, g.F.Flags.set_of f.value)) c.flags-flag-items.result.now
          g.F.Flags.table (g.F.Flags.set_of c.args.flags) c.named.flag-index c.flag-item.result
          c.named.later c.args.rest.now c.named.rest.now _ (c.flags-flag-items.ensures c.requires.exact)
          c.named-test.true c.flag-item.is
          c.named.invariant has)
    ]

pub returns : goal.returns
returns g c =
    let table = g.F.Flags.table in
    let past : length table ≤ c.named.flag-index =
    omega (
      arith,
      c.named-test.false,
      ap length (c.flags-flag-items.ensures c.requires.exact),
      length-map {B = List ℕ × ℕ} c.flags-flag-items.result.now
          (λ f. (f.name.now, g.F.Flags.set_of f.value)),
    ) in
    Takes-names _ c.named.later c.args.rest.now c.named.rest.now c.in_ok-behind.behind.now _
    (no_flag_left table (g.F.Flags.set_of c.args.flags) c.named.flag-index past) c.named.invariant
    c.in_ok-behind.ensures
