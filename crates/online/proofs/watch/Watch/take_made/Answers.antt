use Rattle.std.proofs.Common.{◌++◌, ◌∷◌, [], refl, subst}
use Rattle.online.specs.Lists.{TakesLists}
use Rattle.online.proofs.WatchEarly.{early_refused}
use Rattle.online.proofs.WatchMissed.{watch_refused}
use Rattle.online.proofs.WatchSteps.{watch_more}
use Rattle.online.proofs.watch.Watch.take_made.Goals as goal

pub returns-clause-passed : goal.returns-clause-passed
returns-clause-passed c passed rs kept =
    let r = c.args.«record».now in
    let takes :
    TakesLists c.args.self.now.lists c.take-7.new.self r c.parent-parent.result c.count-place.result =
    record { noted = c.in_ok-take-7.ensures.noted; dropped = c.in_ok-take-7.ensures.dropped } in
    c.forget.ensures (rs ++ r ∷ []) (watch_more rs c.args.self.now (record {
      replay = c.take.new.self;
      regions = c.take-2.new.self;
      rosters = c.take-3.new.self;
      lengths = c.take-4.new.self;
      waits = c.take-5.new.self;
      items = c.take-6.new.self;
      lists = c.take-7.new.self;
      outside = c.stays_outside-outside.result;
    }) r c.parent-parent.result kept (record {
      followed = record {
        nests = c.in_ok-take.ensures.kind c.if-not-branch.false;
        replay = c.in_ok-take.ensures.made c.if-not-branch.false;
        regions = λ before. c.in_ok-take-2.ensures c.if-not-branch-2.false before r refl;
        lengths = c.in_ok-take-4.ensures c.if-not-branch-4.false;
      };
      parent_is = c.parent-parent.ensures;
      may_list = c.may_list.ensures c.if-not-may_list.false;
      rosters = c.in_ok-take-3.ensures c.if-not-branch-3.false;
      waits = c.in_ok-take-5.ensures.tasks c.if-not-branch-5.false;
      teams = c.in_ok-take-5.ensures.teams c.if-not-branch-5.false;
      covers = c.in_ok-take-5.ensures.complete c.if-not-branch-5.false;
      items = λ before may_be items. record {
        kept = c.in_ok-take-6.ensures.kept c.if-not-branch-6.false before may_be items;
        listed = c.in_ok-take-6.ensures.listed c.if-not-branch-6.false before may_be items;
        complete = c.in_ok-take-6.ensures.complete c.if-not-branch-6.false before may_be items;
      };
      lists =
          subst (TakesLists c.args.self.now.lists c.take-7.new.self r c.parent-parent.result)
          c.count-place.ensures takes;
      outside = c.stays_outside-outside.ensures;
    }))

pub returns-then-not-branch-5-clause-refused : goal.returns-then-not-branch-5-clause-refused
returns-then-not-branch-5-clause-refused c waits rs kept ends =
    let r = c.args.«record».now in
    watch_refused rs c.args.self.now (record {
      replay = c.take.new.self;
      regions = c.take-2.new.self;
      rosters = c.take-3.new.self;
      lengths = c.take-4.new.self;
      waits = c.take-5.new.self;
      items = c.args.self.now.items;
      lists = c.args.self.now.lists;
      outside = c.args.self.now.outside;
    }) r kept (record {
      followed = record {
        nests = c.in_ok-take.ensures.kind c.if-not-branch.false;
        replay = c.in_ok-take.ensures.made c.if-not-branch.false;
        regions = λ before. c.in_ok-take-2.ensures c.if-not-branch-2.false before r refl;
        lengths = c.in_ok-take-4.ensures c.if-not-branch-4.false;
      };
      same = c.in_ok-take-5.ensures.refused c.if-not-branch-5.true ends;
      outside = refl;
    })

pub returns-then-not-branch-6-clause-early : goal.returns-then-not-branch-6-clause-early
returns-then-not-branch-6-clause-early c early rs kept =
    let r = c.args.«record».now in
    early_refused rs c.args.self.now (record {
      replay = c.take.new.self;
      regions = c.take-2.new.self;
      rosters = c.take-3.new.self;
      lengths = c.take-4.new.self;
      waits = c.take-5.new.self;
      items = c.take-6.new.self;
      lists = c.args.self.now.lists;
      outside = c.args.self.now.outside;
    }) r kept (record {
      nests = c.in_ok-take.ensures.kind c.if-not-branch.false;
      replay = c.in_ok-take.ensures.made c.if-not-branch.false;
      regions = λ before. c.in_ok-take-2.ensures c.if-not-branch-2.false before r refl;
      lengths = c.in_ok-take-4.ensures c.if-not-branch-4.false;
    })
    refl
