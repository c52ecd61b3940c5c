use Rattle.std.proofs.Common.{◌≡◌, ◌∙◌, Bool, true, false, List, ◌++◌, ◌∷◌, [], refl}
use Rattle.std.specs.Prelude.{IsTrue, not}
use Rattle.std.proofs.Math.Bool.{beq}
use Rattle.std.proofs.lemmas.Bool.{true≢false}
use Rattle.std.proofs.lemmas.Result.{IfOk-weaker}
use Rattle.ompt_events.specs.declared.records.Record.{Record}
use Rattle.online.specs.Replays.{IsReplayOf, IsAdvanced}
use Rattle.online.proofs.TakenLemmas.{replay_more}
use Rattle.online.proofs.replay.Replay.take.Goals as goal

pub returns-clause-made : goal.returns-clause-made
returns-clause-made c =
    let old = c.args.self.now in
    let noted = c.note_made.new.self in
    let later = c.advance.new.self in
    let r = c.args.«record».now in
    IfOk-weaker c.advance.result (λ done. IsTrue done → IsAdvanced noted later r)
    (λ taken. IsTrue taken → (rs : List Record) → IsReplayOf rs old → IsReplayOf (rs ++ r ∷ []) later)
    (λ done advanced is rs kept. replay_more rs old c.take_call.new.self noted later r kept
    (same_kind r.nests old.nests c.if-record-self.false)
    (c.if-not-fits.ensures refl) (c.in_ok-take_call.ensures c.if-not-branch.false)
    (c.in_ok-note_made.ensures c.if-not-branch-2.false) (advanced is))
    c.advance.ensures
  where
    same_kind : (a b : Bool) → not (beq a b) ≡ false → a ≡ b
    same_kind true true e = refl
    same_kind true false e = absurd (true≢false e)
    same_kind false true e = absurd (true≢false e)
    same_kind false false e = refl

pub returns-clause-kind : goal.returns-clause-kind
returns-clause-kind c =
    let noted = c.note_made.new.self in
    let r = c.args.«record».now in
    IfOk-weaker c.advance.result (λ done. IsTrue done → IsAdvanced noted c.advance.new.self r)
    (λ taken. IsTrue taken → c.advance.new.self.nests ≡ c.args.self.now.nests)
    (λ done advanced is.
    (advanced is).nests ∙ (c.in_ok-note_made.ensures c.if-not-branch-2.false).nests
    ∙ (c.in_ok-take_call.ensures c.if-not-branch.false).nests)
    c.advance.ensures
