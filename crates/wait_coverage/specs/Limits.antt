-- The least ledger length at which what the end of a region covers is finished.
use Rattle.std.specs.Prelude.{ℕ, ◌≡◌, ◌<◌, ◌≤◌, ◌+◌, ◌^◌, true, List, length, Option, Some, Contains}
use Rattle.std.specs.Prelude.{slice_get}
use Rattle.ompt_events.specs.declared.records.Record.{Record}
use Rattle.ompt_events.specs.declared.names.Endpoint.TheVariants.{Begin}
use Rattle.ompt_events.specs.declared.names.SyncKind.{SyncKind}
use Rattle.ompt_events.specs.declared.names.SyncKind.TheVariants.{Taskwait, Taskgroup}
use Rattle.ompt_events.specs.Records.{creation, region}
use Rattle.ompt_events.specs.Places.{at}
use Rattle.ompt_events.specs.Regions.{IsRegion, EndsRegion, barrier_begun, open_regions, waits_for_tasks}
use Rattle.ompt_events.specs.Coverage.{Covers, IsFamily}
use Rattle.wait_coverage.specs.Done.{DoneView, records_of, tasks_of, IsEarly, IsFamilyEarly}
use Rattle.wait_coverage.specs.declared.limits.Node.{Node}
use Rattle.wait_coverage.specs.declared.limits.Progress.{Progress}

-- from this ledger length on the task and all its descendants are finished
abbrev pub IsFamilyLimit : DoneView → ℕ → ℕ → Type 0
IsFamilyLimit done task limit = (m t : ℕ) → m < 2 ^ 32 → limit ≤ m → IsFamily (records_of done) task t
    → IsEarly done m t

-- from this ledger length on the children that the task created before the record i are finished
abbrev pub IsChildLimit : DoneView → ℕ → ℕ → ℕ → Type 0
IsChildLimit done i task limit =
    (m c child : ℕ) → m < 2 ^ 32 → limit ≤ m → c < i → at creation (records_of done) c ≡ Some (task, child)
    → IsEarly done m child

-- from this ledger length on the children that the task created before the record i, and their descendants,
-- are finished
abbrev pub IsFamiliesLimit : DoneView → ℕ → ℕ → ℕ → Type 0
IsFamiliesLimit done i task limit =
    (c child : ℕ) → c < i → at creation (records_of done) c ≡ Some (task, child)
    → IsFamilyLimit done child limit

-- ---- no lesser length would do

-- a ledger length that is enough is at least the limit. The greatest number of 32 bits has no limit of
-- its own, and no record of a trace names it
abbrev pub IsLeastFor : (ℕ → Type 0) → ℕ → Type 0
IsLeastFor is_enough limit = (m : ℕ) → m < 4294967295 → is_enough m → limit ≤ m

-- at this ledger length the children are finished that the task created before the record i
abbrev pub AreChildrenEarly : DoneView → ℕ → ℕ → ℕ → Type 0
AreChildrenEarly done i task m =
    (c child : ℕ) → c < i → at creation (records_of done) c ≡ Some (task, child) → IsEarly done m child

-- at this ledger length the children are finished that the task created from the record begin on and before
-- the record i, and their descendants
abbrev pub AreFamiliesEarly : DoneView → ℕ → ℕ → ℕ → ℕ → Type 0
AreFamiliesEarly done begin i task m =
    (c child : ℕ) → begin ≤ c → c < i → at creation (records_of done) c ≡ Some (task, child)
    → IsFamilyEarly done m child

-- at this ledger length each task that the end at i covers is finished
abbrev pub IsCoverEarly : DoneView → ℕ → ℕ → Type 0
IsCoverEarly done i m = (t : ℕ) → Covers (records_of done) i t → IsEarly done m t

-- ---- the limits of ends

-- from this ledger length on each task that a taskwait or a taskgroup which ends at i covers is finished
pub record IsWaitLimit (done : DoneView) (i limit : ℕ) : Type 0 where
  pub waits : (parent begin : ℕ) → IsRegion (records_of done) i parent Taskwait begin
      → IsChildLimit done begin parent limit
  pub groups : (parent begin c child : ℕ) → IsRegion (records_of done) i parent Taskgroup begin
      → begin ≤ c → c < i
      → at creation (records_of done) c ≡ Some (parent, child) → IsFamilyLimit done child limit
  pub least_of_wait : (parent begin : ℕ) → IsRegion (records_of done) i parent Taskwait begin
      → IsLeastFor (AreChildrenEarly done begin parent) limit
  pub least_of_group : (parent begin : ℕ) → IsRegion (records_of done) i parent Taskgroup begin
      → IsLeastFor (AreFamiliesEarly done begin i parent) limit

-- from this ledger length on each task that the end at i covers is finished
abbrev pub IsEndLimit : DoneView → ℕ → ℕ → Type 0
IsEndLimit done i limit =
    (m t : ℕ) → m < 2 ^ 32 → limit ≤ m → Covers (records_of done) i t → IsEarly done m t

-- if a region that waits for tasks ends at i, the limit is the least
abbrev pub IsEndLeast : DoneView → ℕ → ℕ → Type 0
IsEndLeast done i limit =
    (task begin : ℕ) (kind : SyncKind) → waits_for_tasks kind ≡ true
    → IsRegion (records_of done) i task kind begin
    → IsLeastFor (IsCoverEarly done i) limit

-- ---- what is noted at the records

-- the node with this number is the head, or is reached from it by the links
pub data IsOnChain (nodes : List Node) : Option ℕ → ℕ → Type 0 where
  here : {number : ℕ} → IsOnChain nodes (Some number) number
  later : {head number : ℕ} {node : Node} → slice_get nodes head ≡ Some node
      → IsOnChain nodes node.previous number → IsOnChain nodes (Some head) number

-- each node's link is to an earlier one
abbrev pub AreFalling : List Node → Type 0
AreFalling nodes = (number next : ℕ) (node : Node) → slice_get nodes number ≡ Some node
    → node.previous ≡ Some next → next < number

-- the node replaces those of a chain that are later than the begin, and links to the others
pub record Gathers (nodes : List Node) (head : Option ℕ) (begin : ℕ) (gathered : Node) : Type 0 where
  pub known : (next : ℕ) → gathered.previous ≡ Some next → next < length nodes
  pub within : (number : ℕ) (node : Node) → IsOnChain nodes head number → begin < number
      → slice_get nodes number ≡ Some node → node.limit ≤ gathered.limit
  pub rest : (number : ℕ) → IsOnChain nodes head number → number ≤ begin
      → IsOnChain nodes gathered.previous number
  pub only : (number : ℕ) → IsOnChain nodes gathered.previous number → IsOnChain nodes head number
  pub least : (m : ℕ) → ((number : ℕ) (node : Node) → IsOnChain nodes head number → begin < number
      → slice_get nodes number ≡ Some node → node.limit ≤ m)
      → gathered.limit ≤ m

-- the limit at the begin of the taskwait that ends at i
abbrev pub IsLimitOfBegin : List Record → List Node → ℕ → ℕ → Type 0
IsLimitOfBegin rs nodes i limit = (task begin : ℕ) → EndsRegion rs i task Taskwait begin
    → (node : Node) × (slice_get nodes begin ≡ Some node) × (node.limit ≡ limit)

-- a node on the chain has a limit for the child that is created at c
pub record HasNode (done : DoneView) (nodes : List Node) (head : Option ℕ) (c child : ℕ) : Type 0 where
  pub number : ℕ
  pub node : Node
  pub on : IsOnChain nodes head number
  pub there : slice_get nodes number ≡ Some node
  pub after : c ≤ number
  pub limit : IsFamilyLimit done child node.limit

-- the node has the limit of the children that the task created from some record on up to the node, and
-- that is behind the begins of the task's open regions which the node is behind
pub record IsNodeLeast (done : DoneView) (n task number : ℕ) (node : Node) : Type 0 where
  pub floor : ℕ
  pub low : floor ≤ number
  pub least : IsLeastFor (AreFamiliesEarly done floor (number + 1) task) node.limit
  pub apart : (begin : ℕ) → Contains (open_regions (records_of done) task n) begin → begin < number
      → begin ≤ floor

-- by index of each task the limit of its children, of those that the first n records create
pub record AreChildLimits (done : DoneView) (n : ℕ) (latest : List ℕ) : Type 0 where
  pub all : length latest ≡ length (tasks_of done)
  pub each : (index task limit : ℕ) → slice_get (tasks_of done) index ≡ Some task
      → slice_get latest index ≡ Some limit
      → IsChildLimit done n task limit
  pub least : (index task limit : ℕ) → slice_get (tasks_of done) index ≡ Some task
      → slice_get latest index ≡ Some limit
      → IsLeastFor (AreChildrenEarly done n task) limit

-- the same for the children and their descendants
pub record AreLatestFamilies (done : DoneView) (n : ℕ) (families : List ℕ) : Type 0 where
  pub all : length families ≡ length (tasks_of done)
  pub each : (index task limit : ℕ) → slice_get (tasks_of done) index ≡ Some task
      → slice_get families index ≡ Some limit
      → IsFamiliesLimit done n task limit
  pub least : (index task limit : ℕ) → slice_get (tasks_of done) index ≡ Some task
      → slice_get families index ≡ Some limit
      → IsLeastFor (AreFamiliesEarly done 0 n task) limit

-- by index of each task the head of a chain that has a node for each child that it creates so far
pub record AreChains (done : DoneView) (nodes : List Node)
    (heads : List (Option ℕ)) : Type 0 where
  pub all : length heads ≡ length (tasks_of done)
  pub known : (index head : ℕ) → slice_get heads index ≡ Some (Some head) → head < length nodes
  pub falling : AreFalling nodes
  pub each : (index task c child : ℕ) (head : Option ℕ) → slice_get (tasks_of done) index ≡ Some task
      → slice_get heads index ≡ Some head → c < length nodes
      → at creation (records_of done) c ≡ Some (task, child)
      → HasNode done nodes head c child
  pub least : (index task number : ℕ) (head : Option ℕ) (node : Node)
      → slice_get (tasks_of done) index ≡ Some task
      → slice_get heads index ≡ Some head → IsOnChain nodes head number → slice_get nodes number ≡ Some node
      → IsNodeLeast done (length nodes) task number node

-- each end has the limit of what it covers
abbrev pub HaveEndLimits : DoneView → List Node → Type 0
HaveEndLimits done nodes =
    (i : ℕ) (node : Node) → slice_get nodes i ≡ Some node → IsEndLimit done i node.limit

-- and that is the least
abbrev pub HaveEndLeasts : DoneView → List Node → Type 0
HaveEndLeasts done nodes =
    (i : ℕ) (node : Node) → slice_get nodes i ≡ Some node → IsEndLeast done i node.limit

-- there is a node for each record, and at the end of a region it has the limit of what this covers
pub record AreEndLimits (done : DoneView) (nodes : List Node) : Type 0 where
  pub count : length nodes ≡ length (records_of done)
  pub known : HaveEndLimits done nodes
  pub least : HaveEndLeasts done nodes

-- the limit is right for what begins or ends at i: for the begin of a taskwait or of a barrier, and for the
-- end of a taskwait or of a taskgroup
pub record IsMark (done : DoneView) (i limit : ℕ) : Type 0 where
  pub begins : (task : ℕ) → at region (records_of done) i ≡ Some (task, Taskwait, Begin)
      → IsChildLimit done i task limit
  pub meets : (task : ℕ) → barrier_begun (at region (records_of done) i) ≡ Some task
      → IsFamiliesLimit done i task limit
  pub least_begun : (task : ℕ) → at region (records_of done) i ≡ Some (task, Taskwait, Begin)
      → IsLeastFor (AreChildrenEarly done i task) limit
  pub least_met : (task : ℕ) → barrier_begun (at region (records_of done) i) ≡ Some task
      → IsLeastFor (AreFamiliesEarly done 0 i task) limit
  pub ends : IsWaitLimit done i limit

abbrev pub AreLimitMarks : DoneView → List Node → Type 0
AreLimitMarks done nodes = (i : ℕ) (node : Node) → slice_get nodes i ≡ Some node → IsMark done i node.limit

-- there is a node for each record, and its limit is right
pub record AreNodes (done : DoneView) (nodes : List Node) : Type 0 where
  pub count : length nodes ≡ length (records_of done)
  pub marks : AreLimitMarks done nodes

-- what is known after the first n records
pub record IsLimitProgress (done : DoneView) (n : ℕ) (nodes : List Node)
    (progress : Progress) : Type 0 where
  pub count : length nodes ≡ n
  pub latest : AreChildLimits done n progress.latest.items
  pub families : AreLatestFamilies done n progress.families.items
  pub chains : AreChains done nodes progress.heads.items
  pub marks : AreLimitMarks done nodes
