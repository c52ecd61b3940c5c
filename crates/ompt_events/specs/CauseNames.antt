-- The order of the causes, and what each is called in a report.
use Rattle.std.specs.Prelude.{ℕ, List, [], ◌∷◌, filter, ltb, codes}
use Rattle.ompt_events.specs.declared.cause.Cause.{Cause}
use Rattle.ompt_events.specs.declared.cause.Cause.TheVariants.{SeqGap, CreatedTwice, Rootless, NotCurrent}
use Rattle.ompt_events.specs.declared.cause.Cause.TheVariants.{Moved, TurnGap, StatusOrder, RegionOrder}
use Rattle.ompt_events.specs.declared.cause.Cause.TheVariants.{TeamShort, NestedParallel, RegionNesting}
use Rattle.ompt_events.specs.declared.cause.Cause.TheVariants.{DepsPlace, ShareWrong, EntryTwice}
use Rattle.ompt_events.specs.declared.cause.Cause.TheVariants.{LengthAhead}
use Rattle.ompt_events.specs.declared.cause.Cause.TheVariants.{LengthBack, NoOrder, TargetTask}

-- the cause's place in the order in which causes are reported; Moved and TurnGap have one number, and so have
-- NestedParallel and RegionNesting, since no version of the file has both
abbrev pub cause_number : Cause → ℕ
cause_number SeqGap = 1
cause_number CreatedTwice = 2
cause_number Rootless = 3
cause_number NotCurrent = 4
cause_number Moved = 5
cause_number TurnGap = 5
cause_number StatusOrder = 6
cause_number RegionOrder = 7
cause_number TeamShort = 8
cause_number NestedParallel = 9
cause_number RegionNesting = 9
cause_number DepsPlace = 10
cause_number ShareWrong = 11
cause_number EntryTwice = 12
cause_number LengthAhead = 13
cause_number LengthBack = 14
cause_number NoOrder = 15
cause_number TargetTask = 16

-- all causes in the order of their numbers
abbrev pub all_causes : List Cause
all_causes =
    SeqGap ∷ CreatedTwice ∷ Rootless ∷ NotCurrent ∷ Moved ∷ TurnGap ∷ StatusOrder ∷ RegionOrder
    ∷ TeamShort ∷ NestedParallel ∷ RegionNesting ∷ DepsPlace ∷ ShareWrong ∷ EntryTwice ∷ LengthAhead
    ∷ LengthBack ∷ NoOrder ∷ TargetTask ∷ []

-- the causes with smaller numbers than this one
abbrev pub before : Cause → List Cause
before cause = filter (λ other. ltb (cause_number other) (cause_number cause)) all_causes

abbrev pub cause_name : Cause → List ℕ
cause_name SeqGap = codes "SeqGap"
cause_name CreatedTwice = codes "CreatedTwice"
cause_name Rootless = codes "Rootless"
cause_name NotCurrent = codes "NotCurrent"
cause_name Moved = codes "Moved"
cause_name TurnGap = codes "TurnGap"
cause_name StatusOrder = codes "StatusOrder"
cause_name RegionOrder = codes "RegionOrder"
cause_name TeamShort = codes "TeamShort"
cause_name NestedParallel = codes "NestedParallel"
cause_name RegionNesting = codes "RegionNesting"
cause_name DepsPlace = codes "DepsPlace"
cause_name ShareWrong = codes "ShareWrong"
cause_name EntryTwice = codes "EntryTwice"
cause_name LengthAhead = codes "LengthAhead"
cause_name LengthBack = codes "LengthBack"
cause_name NoOrder = codes "NoOrder"
cause_name TargetTask = codes "TargetTask"
