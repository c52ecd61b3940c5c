use Rattle.std.proofs.Common.{◌≡◌, ◌∙◌, ap}
use Rattle.std.proofs.Math.ListN.{set}
use Rattle.task_states.specs.Progress.{ProgressView}
use Rattle.task_states.proofs.ProgressLemmas.{was_state, states_gone, refused_gone, marks_gone}
use Rattle.task_states.proofs.progress.Progress.go_on.Goals as goal

pub returns-in-Some-clause-refused : goal.returns-in-Some-clause-refused
returns-in-Some-clause-refused c =
    let states_are : c.self.inside.states.items ≡ c.args.self.now.states =
    ap (λ (v : ProgressView). v.states) c.self.view_is in
    let refused_is : c.self.inside.refused ≡ c.args.self.now.refused =
    ap (λ (v : ProgressView). v.refused) c.self.view_is in
    let before =
    was_state c.self.inside.states.items c.args.self.now.states c.args.moved.index c.index.result.now
    c.in-Some.state states_are c.requires c.index.ensures c.in-Some.is in
    refused_gone c.args.nature c.args.moved.step c.args.self.now.states c.args.moved.index c.args.moved.at
    c.in-Some.state c.after_move-after.result c.self.inside.refused c.args.self.now.refused before
    (c.after_move-after.ensures c.args.moved.at) refused_is (c.note_refused.ensures c.in-Some.state)

pub returns-in-Some-clause-states : goal.returns-in-Some-clause-states
returns-in-Some-clause-states c =
    let states_are : c.self.inside.states.items ≡ c.args.self.now.states =
    ap (λ (v : ProgressView). v.states) c.self.view_is in
    let before =
    was_state c.self.inside.states.items c.args.self.now.states c.args.moved.index c.index.result.now
    c.in-Some.state states_are c.requires c.index.ensures c.in-Some.is in
    ap (λ l. set l c.args.moved.index c.after_move-after.result) states_are
    ∙ ap (set c.args.self.now.states c.args.moved.index)
    (states_gone c.args.nature c.args.moved.step c.args.self.now.states c.args.moved.index
    c.args.moved.at c.in-Some.state c.after_move-after.result before
    (c.after_move-after.ensures c.args.moved.at))

pub returns-in-Some-clause-marks : goal.returns-in-Some-clause-marks
returns-in-Some-clause-marks c =
    let states_are : c.self.inside.states.items ≡ c.args.self.now.states =
    ap (λ (v : ProgressView). v.states) c.self.view_is in
    let marks_are : c.self.inside.marks.items ≡ c.args.self.now.marks =
    ap (λ (v : ProgressView). v.marks) c.self.view_is in
    let before =
    was_state c.self.inside.states.items c.args.self.now.states c.args.moved.index c.index.result.now
    c.in-Some.state states_are c.requires c.index.ensures c.in-Some.is in
    marks_gone c.args.nature c.args.moved.step c.args.self.now.states c.args.moved.index c.args.moved.at
    c.in-Some.state c.after_move-after.result c.self.inside.marks.items c.args.self.now.marks before
    (c.after_move-after.ensures c.args.moved.at) marks_are (c.mark_refused.ensures c.in-Some.state)
