use Rattle.std.proofs.Common.{◌≡◌, ◌≤◌, ◌++◌, true, false, List, ℕ, length, sym, ap, ◌∙◌, arith}
use Rattle.std.proofs.lemmas.List.{length-map}
use Rattle.json.specs.Print.{quoted}
use Rattle.serde_json.specs.Written.{comma_if}
use Rattle.lines.specs.Texts.{Puts}
use Rattle.ompt_events.specs.Flags.{has_flag}
use Rattle.lines.proofs.ItemLemmas.{on_ok, IsPut-with, IsPut-without, all_names_put, no_flag_left}
use Rattle.lines.proofs.ItemLemmas.{row-plain}
use Rattle.lines.proofs.texts.put_flags.Goals as goal
use Rattle.lines.proofs.texts.put_flags.Goals.{then-contains+in_ok-put_name, else-contains}

pub put_name-requires : goal.put_name-requires
put_name-requires g c =
    row-plain (λ f. (f.name.now, g.F.Flags.set_of f.value)) c.flags-flag-items.result.now g.F.Flags.table
    c.named.flag-index c.flag-item.result (c.flags-flag-items.ensures c.requires.exact) c.named-test.true
    c.flag-item.is c.requires.plain

pub named-preserved : goal.named-preserved
named-preserved g c =
    elim c.if-contains.branch [
      | then-contains+in_ok-put_name w ↦
          let has : has_flag (g.F.Flags.set_of c.args.flags) (g.F.Flags.set_of c.flag-item.result.value)
          ≡ true =
          sym (c.contains.ensures c.requires.exact) ∙ w.if-contains.true in
          let puts : Puts c.named.out.items w.put_name.new.out.items
          (comma_if c.named.later ++ quoted c.flag-item.result.name.now) =
          (rw w.comma.ensures at w.in_ok-put_name.ensures) in
          rw (w.out-is, w.later-is)
          (IsPut-with (λ f. (f.name.now, g.F.Flags.set_of f.value)) c.flags-flag-items.result.now
          g.F.Flags.table (g.F.Flags.set_of c.args.flags) c.named.flag-index c.flag-item.result
          c.named.later c.args.out.now.items c.named.out.items w.put_name.new.out.items _
          (c.flags-flag-items.ensures c.requires.exact) c.named-test.true c.flag-item.is
          c.named.invariant has puts)
      | else-contains w ↦
          let has : has_flag (g.F.Flags.set_of c.args.flags) (g.F.Flags.set_of c.flag-item.result.value)
          ≡ false =
          sym (c.contains.ensures c.requires.exact) ∙ w.if-contains.false in
          rw (w.out-is, w.later-is)
          (IsPut-without (λ f. (f.name.now, g.F.Flags.set_of f.value)) c.flags-flag-items.result.now
          g.F.Flags.table (g.F.Flags.set_of c.args.flags) c.named.flag-index c.flag-item.result
          c.named.later c.args.out.now.items c.named.out.items _
          (c.flags-flag-items.ensures c.requires.exact) c.named-test.true c.flag-item.is
          c.named.invariant has)
    ]

pub returns : goal.returns
returns g c =
    let table = g.F.Flags.table in
    let past : length table ≤ c.named.flag-index =
    omega (
      arith,
      c.named-test.false,
      ap length (c.flags-flag-items.ensures c.requires.exact),
      length-map {B = List ℕ × ℕ} c.flags-flag-items.result.now
          (λ f. (f.name.now, g.F.Flags.set_of f.value)),
    ) in
    on_ok _
    (all_names_put _ c.named.later c.args.out.now.items c.named.out.items c.put.new.out.items _
    (no_flag_left table (g.F.Flags.set_of c.args.flags) c.named.flag-index past) c.named.invariant)
    c.put.ensures
