use Rattle.std.proofs.Common.{refl}
use Rattle.std.proofs.lemmas.Result.{IfOk-weaker}
use Rattle.online.proofs.WatchedLemmas.{watched_more}
use Rattle.online.proofs.WatchEarly.{early_root, early_same}
use Rattle.online.proofs.WatchMissed.{refused_root, refused_same}
use Rattle.online.proofs.watch.Watch.take.Goals as goal

pub returns-in-Some-clause-passed : goal.returns-in-Some-clause-passed
returns-in-Some-clause-passed c =
    IfOk-weaker c.take_made.result _ _
    (λ failed taken none.
    watched_more c.args.self.now c.take_made.new.self c.args.«record».now c.in-Some.made c.in-Some.ensures.0
    (taken none))
    c.take_made.ensures.passed

pub returns-in-Some-clause-refused : goal.returns-in-Some-clause-refused
returns-in-Some-clause-refused c =
    IfOk-weaker c.take_made.result _ _
    (λ failed taken waits records kept.
    refused_root c.take_made.new.self c.args.«record».now c.in-Some.ensures.1 records)
    c.take_made.ensures.refused

pub returns-in-Some-clause-early : goal.returns-in-Some-clause-early
returns-in-Some-clause-early c =
    IfOk-weaker c.take_made.result _ _
    (λ failed taken early records kept.
    early_root c.take_made.new.self c.args.«record».now c.in-Some.ensures.2 c.in-Some.ensures.3
    records)
    c.take_made.ensures.early

pub returns-in-None-clause-passed : goal.returns-in-None-clause-passed
returns-in-None-clause-passed c =
    IfOk-weaker c.take_made-in-None.result _ _
    (λ failed taken none.
    watched_more c.args.self.now c.take_made-in-None.new.self c.args.«record».now c.args.«record».now refl
    (taken none))
    c.take_made-in-None.ensures.passed

pub returns-in-None-clause-refused : goal.returns-in-None-clause-refused
returns-in-None-clause-refused c =
    IfOk-weaker c.take_made-in-None.result _ _
    (λ failed taken waits.
    refused_same c.args.self.now c.take_made-in-None.new.self c.args.«record».now (taken waits))
    c.take_made-in-None.ensures.refused

pub returns-in-None-clause-early : goal.returns-in-None-clause-early
returns-in-None-clause-early c =
    IfOk-weaker c.take_made-in-None.result _ _
    (λ failed taken early.
    early_same c.args.self.now c.take_made-in-None.new.self c.args.«record».now (taken early))
    c.take_made-in-None.ensures.early
