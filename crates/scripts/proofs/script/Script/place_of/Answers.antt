use Rattle.std.proofs.Common.{◌≡◌, ap, sym, ◌∙◌}
use Rattle.std.specs.Prelude.{is_some, not, ◌&&◌}
use Rattle.std.specs.List.{list_all}
use Rattle.ompt_events.specs.Records.{made, named}
use Rattle.scripts.specs.Scripts.{ScriptView, is_call, is_earlier, has_twice, is_made, may_be_named}
use Rattle.scripts.specs.Scripts.{may_name, life}
use Rattle.scripts.proofs.TallyLemmas.{found-decides, found-same, after-last}
use Rattle.scripts.proofs.script.Script.place_of.Goals as goal

pub returns-then-may_name-clause-may : goal.returns-then-may_name-clause-may
returns-then-may_name-clause-may c =
    let steps = c.self.inside.steps.items in
    let now = c.args.self.now.steps in
    let body = c.args.body.now in
    let found : is_some c.find.result ≡ is_earlier now c.args.after =
    found-decides steps c.args.after c.find.result (c.find.ensures steps c.self.invariant.is_tally)
    ∙ ap (λ (v : ScriptView). is_earlier v.steps c.args.after) c.self.view_is in
    let named_well : is_earlier now c.args.after ≡ (may_name now body && is_earlier now c.args.after) =
    ap (λ b. b && is_earlier now c.args.after) c.if-may_name.ensures in
    found ∙ named_well
    ∙ sym (after-last (is_call body) (is_earlier now c.args.after) (not (has_twice (named body)))
    (list_all (λ task. may_be_named (is_made (made body) task) (life now task)) (named body)))

pub returns-then-may_name-clause-same : goal.returns-then-may_name-clause-same
returns-then-may_name-clause-same c =
    found-same c.self.inside.steps.items c.args.after c.find.result
    (c.find.ensures c.self.inside.steps.items c.self.invariant.is_tally)
