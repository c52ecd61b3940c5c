-- The nodes that an end of a taskgroup looks at.
use Rattle.std.proofs.Common.{◌≡◌, ◌∙◌, ℕ, ◌<◌, ◌≤◌, ◌+◌, List, [], ◌∷◌, ◌++◌, length, get_or, Option, Some}
use Rattle.std.proofs.Common.{None, refl, sym, ap, subst, arith, inl, inr, ◌⊎◌, zero, suc, drop, add-one}
use Rattle.std.proofs.lemmas.Bool.{cases_eq}
use Rattle.std.proofs.lemmas.Option.{none-some, same_Some, slice_get_within, slice_get-get_or}
use Rattle.std.proofs.lemmas.List.{length_push, length-set}
use Rattle.std.proofs.lemmas.List.Elements.{Contains-append_right, Contains-append_cases}
use Rattle.std.proofs.lemmas.List.Elements.{All-nil, All-cons, All-drop, All-weaker}
use Rattle.std.proofs.lemmas.List.Kept.{AllPairs-cons}
use Rattle.std.proofs.Math.ListN.{set}
use Rattle.std.specs.Prelude.{max, slice_get, All, Contains}
use Rattle.std.specs.List.{AllPairs}
use Rattle.std.specs.Option.{option_map_or}
use Rattle.ompt_events.specs.declared.records.Record.{Record}
use Rattle.ompt_events.specs.declared.names.SyncKind.{SyncKind}
use Rattle.ompt_events.specs.declared.names.Endpoint.{Endpoint}
use Rattle.ompt_events.specs.declared.names.Endpoint.TheVariants.{Begin, End, BeginEnd}
use Rattle.ompt_events.specs.Records.{creation, region}
use Rattle.ompt_events.specs.Regions.{open_regions}
use Rattle.ompt_events.proofs.RegionLemmas.{open_none, open_other, open_own}
use Rattle.ompt_events.specs.Places.{at}
use Rattle.ompt_events.proofs.ListLemmas.{get_pushed, get_last, pushed_cases}
use Rattle.index_tables.specs.Numbering.{AreApart}
use Rattle.task_tree.proofs.LinkLemmas.{get_set_same, get_set_other}
use Rattle.wait_coverage.specs.Done.{DoneView, records_of, tasks_of}
use Rattle.wait_coverage.specs.Limits.{IsFamilyLimit, IsOnChain, here, later, AreFalling, Gathers, HasNode}
use Rattle.wait_coverage.specs.Limits.{AreChains, IsNodeLeast}
use Rattle.wait_coverage.specs.declared.limits.Node.{Node}

-- ---- one chain

-- a node that is there without the pushed one
old_node : (nodes : List Node) (new node : Node) (place : ℕ) → place < length nodes
    → slice_get (nodes ++ new ∷ []) place ≡ Some node → slice_get nodes place ≡ Some node
old_node nodes new node place below there = elim (pushed_cases nodes new node place there) [
  | inl old ↦ old
  | inr last ↦ let same = last.0 in absurd (omega (arith, below, same))
]

-- one with a node has a head
pub chain_head : (nodes : List Node) (head : Option ℕ) (place : ℕ) → IsOnChain nodes head place
    → (top : ℕ) × (head ≡ Some top)
chain_head nodes head place (here {number = top}) = (top, refl)
chain_head nodes head place (later {head = from} there rest) = (from, refl)

-- it falls
pub chain_falls : (nodes : List Node) (head : Option ℕ) (place top : ℕ) → AreFalling nodes
    → IsOnChain nodes head place → head ≡ Some top → place ≤ top
chain_falls nodes head place top falls here is = let same = same_Some place top is in omega (arith, same)
chain_falls nodes head place top falls (later {head = from} {node = node} there rest) is =
    let next = chain_head nodes node.previous place rest in
    let less = falls from next.0 node there next.1 in
    let low = chain_falls nodes node.previous place next.0 falls rest next.1 in
    let same = same_Some from top is in
    omega (arith, less, low, same)

-- and stays as it is when a node is pushed
pub chain_stays : (nodes : List Node) (new : Node) (head : Option ℕ) (place : ℕ) → IsOnChain nodes head place
    → IsOnChain (nodes ++ new ∷ []) head place
chain_stays nodes new head place here = here
chain_stays nodes new head place (later {head = from} {node = node} there rest) =
    later (get_pushed nodes new node from there) (chain_stays nodes new node.previous place rest)

-- a chain of old nodes is one of these alone
pub chain_was : (nodes : List Node) (new : Node) (head : Option ℕ) (place : ℕ) → AreFalling nodes
    → ((top : ℕ) → head ≡ Some top → top < length nodes) → IsOnChain (nodes ++ new ∷ []) head place
    → IsOnChain nodes head place
chain_was nodes new head place falls old here = here
chain_was nodes new head place falls old (later {head = from} {node = node} there rest) =
    let below : from < length nodes = old from refl in
    let was : slice_get nodes from ≡ Some node = old_node nodes new node from below there in
    later was
    (chain_was nodes new node.previous place falls
    (λ top is. let less = falls from top node was is in omega (arith, less, below)) rest)

-- its nodes are
chain_below : (nodes : List Node) (head : Option ℕ) (place : ℕ) → AreFalling nodes
    → ((top : ℕ) → head ≡ Some top → top < length nodes) → IsOnChain nodes head place → place < length nodes
chain_below nodes head place falls old on =
    let first = chain_head nodes head place on in
    let low = chain_falls nodes head place first.0 falls on first.1 in
    let below = old first.0 first.1 in
    omega (arith, low, below)

pub node_stays : (done : DoneView) (nodes : List Node) (new : Node) (head : Option ℕ) (c child : ℕ)
    → HasNode done nodes head c child → HasNode done (nodes ++ new ∷ []) head c child
node_stays done nodes new head c child has = record {
  number = has.number;
  node = has.node;
  on = chain_stays nodes new head has.number has.on;
  there = get_pushed nodes new has.node has.number has.there;
  after = has.after;
  limit = has.limit;
}

-- ---- gathering the nodes that are later than a begin

-- those passed are at most the limit, the others are still ahead
abbrev pub IsChainGathered : List Node → Option ℕ → ℕ → ℕ → Option ℕ → Type 0
IsChainGathered nodes head begin limit rest = (place : ℕ) → IsOnChain nodes head place
    → IsOnChain nodes rest place
    ⊎ ((begin < place) × ((node : Node) → slice_get nodes place ≡ Some node → node.limit ≤ limit))

pub gathered_start : (nodes : List Node) (head : Option ℕ) (begin : ℕ)
    → IsChainGathered nodes head begin 0 head
gathered_start nodes head begin place on = inl on

-- what is ahead is on the chain, and the limit is at most what those are that lie behind the begin
pub record IsGatheredLeast (nodes : List Node) (head : Option ℕ) (begin limit : ℕ) (rest : Option ℕ)
    : Type 0 where
  pub only : (place : ℕ) → IsOnChain nodes rest place → IsOnChain nodes head place
  pub least : (m : ℕ) → ((place : ℕ) (node : Node) → IsOnChain nodes head place → begin < place
      → slice_get nodes place ≡ Some node → node.limit ≤ m)
      → limit ≤ m

pub least_start : (nodes : List Node) (head : Option ℕ) (begin : ℕ) → IsGatheredLeast nodes head begin 0 head
least_start nodes head begin = record { only = λ place on. on; least = λ m low. omega arith }

pub least_more : (nodes : List Node) (head rest : Option ℕ) (begin limit place : ℕ) (node : Node)
    → IsGatheredLeast nodes head begin limit rest → rest ≡ Some place → begin < place
    → slice_get nodes place ≡ Some node
    → IsGatheredLeast nodes head begin (max limit node.limit) node.previous
least_more nodes head rest begin limit place node are is less there = record {
  only = λ other on. are.only other (on_rest other (later there on));
  least = λ m low.
      let here_low = low place node (are.only place (on_rest place here)) less there in
      let rest_low = are.least m low in omega (arith, here_low, rest_low);
}
  where
    on_rest : (other : ℕ) → IsOnChain nodes (Some place) other → IsOnChain nodes rest other
    on_rest other on = let P : Option ℕ → Type 0 = λ h. IsOnChain nodes h other in subst P (sym is) on

pub gathered_more : (nodes : List Node) (head rest : Option ℕ) (begin limit place : ℕ) (node : Node)
    → IsChainGathered nodes head begin limit rest → rest ≡ Some place → begin < place
    → slice_get nodes place ≡ Some node
    → IsChainGathered nodes head begin (max limit node.limit) node.previous
gathered_more nodes head rest begin limit place node are is less there other on = elim (are other on) [
  | inl ahead ↦ of rest is ahead
  | inr passed ↦ inr (passed.0, λ n stands. let low = passed.1 n stands in omega (arith, low))
]
  where
    of : (o : Option ℕ) → o ≡ Some place → IsOnChain nodes o other
        → IsOnChain nodes node.previous other
        ⊎ ((begin < other)
        × ((n : Node) → slice_get nodes other ≡ Some n → n.limit ≤ max limit node.limit))
    of o e here =
        let at_place : other ≡ place = same_Some other place e in
        inr (
          omega (arith, less, at_place),
          λ n stands.
              let same : n.limit ≡ node.limit =
              ap (λ (x : Node). x.limit)
              (same_Some n node (sym stands ∙ ap (slice_get nodes) at_place ∙ there)) in
              omega (arith, same),
        )
    of o e (later {head = from} {node = step} step_there more) =
        let at_place : from ≡ place = same_Some from place e in
        let P : Node → Type 0 = λ x. IsOnChain nodes x.previous other in
        inl (subst P (same_Some step node (sym step_there ∙ ap (slice_get nodes) at_place ∙ there)) more)

-- the next node is an earlier one
pub smaller_next : (nodes : List Node) (rest : Option ℕ) (place : ℕ) (node : Node) → AreFalling nodes
    → rest ≡ Some place → slice_get nodes place ≡ Some node
    → option_map_or (λ p. p + 1) node.previous 0 < option_map_or (λ p. p + 1) rest 0
smaller_next nodes rest place node falls is there = rw is (of node.previous refl)
  where
    of : (o : Option ℕ) → node.previous ≡ o → option_map_or (λ p. p + 1) o 0 < place + 1
    of None e = omega arith
    of (Some next) e = let less = falls place next node there e in omega (arith, less)

pub gathers : (nodes : List Node) (head rest : Option ℕ) (begin limit : ℕ) → AreFalling nodes
    → IsChainGathered nodes head begin limit rest → IsGatheredLeast nodes head begin limit rest
    → ((place : ℕ) → rest ≡ Some place → place < length nodes)
    → ((place : ℕ) → rest ≡ Some place → begin < place → ⊥)
    → Gathers nodes head begin (record { limit = limit; previous = rest })
gathers nodes head rest begin limit falls are least inside stopped = record {
  known = inside;
  within = λ place node on less there. elim (are place on) [
    | inl ahead ↦ absurd (not_ahead place less ahead)
    | inr passed ↦ passed.1 node there
  ];
  rest = λ place on low. elim (are place on) [
    | inl ahead ↦ ahead
    | inr passed ↦ let less = passed.0 in absurd (omega (arith, less, low))
  ];
  only = least.only;
  least = least.least;
}
  where
    not_ahead : (place : ℕ) → begin < place → IsOnChain nodes rest place → ⊥
    not_ahead place less on =
        let first = chain_head nodes rest place on in
        let low = chain_falls nodes rest place first.0 falls on first.1 in
        stopped first.0 first.1 (omega (arith, less, low))

-- ---- what a node has the least limit of

-- the regions that are open behind a record were open before, but for one that it begins
open_before : (rs : List Record) (task n begin : ℕ) → Contains (open_regions rs task (n + 1)) begin
    → (begin ≡ n) ⊎ Contains (open_regions rs task n) begin
open_before rs task n begin found = of (at region rs n) refl
  where
    same : (xs : List ℕ) → open_regions rs task (n + 1) ≡ xs → Contains xs begin
    same xs is = let P : List ℕ → Type 0 = λ l. Contains l begin in subst P is found

    only_one : Contains (n ∷ []) begin → begin ≡ n
    only_one (zero, below, is) = sym is
    only_one (suc k, below, is) = absurd (omega (arith, below))

    contains_rest : (xs : List ℕ) → Contains (drop 1 xs) begin → Contains xs begin
    contains_rest [] has = has
    contains_rest (x ∷ xs) has = Contains-append_right (x ∷ []) xs begin has

    after : (kind : SyncKind) (endpoint : Endpoint) → at region rs n ≡ Some (task, kind, endpoint)
        → (begin ≡ n) ⊎ Contains (open_regions rs task n) begin
    after kind Begin says =
        elim
        (Contains-append_cases (n ∷ []) (open_regions rs task n) begin
        (same _ (open_own rs task n kind Begin says))) [
          | inl own ↦ inl (only_one own)
          | inr more ↦ inr more
        ]
    after kind BeginEnd says = inr (same _ (open_own rs task n kind BeginEnd says))
    after kind End says =
        inr (contains_rest (open_regions rs task n) (same _ (open_own rs task n kind End says)))

    of : (o : Option (ℕ × SyncKind × Endpoint)) → at region rs n ≡ o
        → (begin ≡ n) ⊎ Contains (open_regions rs task n) begin
    of None e = inr (same _ (open_none rs task n e))
    of (Some (own, kind, endpoint)) e = elim (cases_eq task own) [
      | inl is_own ↦ after kind endpoint (e ∙ ap (λ t. Some (t, kind, endpoint)) (sym is_own))
      | inr apart ↦ inr (same _ (open_other rs task own n kind endpoint e apart))
    ]

-- all of them began before the record, each before those inside it
abbrev AreNested : ℕ → List ℕ → Type 0
AreNested n opened = All (λ x. x < n) opened × AllPairs (λ x y. y < x) opened

nested_later : (n : ℕ) (opened : List ℕ) → AreNested n opened → AreNested (n + 1) opened
nested_later n opened (before, falling) =
    (All-weaker (λ x. x < n) (λ x. x < n + 1) (λ x less. omega (arith, less)) opened before, falling)

nested_rest : (n : ℕ) (opened : List ℕ) → AreNested n opened → AreNested n (drop 1 opened)
nested_rest n [] is = is
nested_rest n (x ∷ xs) (before, falling) = (
  All-drop (λ y. y < n) 1 (x ∷ xs) before,
  λ i j d less within. falling (suc i) (suc j) d (omega (arith, less)) (omega (arith, within)),
)

nested_same : (n : ℕ) (xs ys : List ℕ) → xs ≡ ys → AreNested n ys → AreNested n xs
nested_same n xs ys is are = let P : List ℕ → Type 0 = AreNested n in subst P (sym is) are

nested_more : (rs : List Record) (task n : ℕ) → AreNested n (open_regions rs task n)
    → AreNested (n + 1) (open_regions rs task (n + 1))
nested_more rs task n so_far = more (at region rs n) refl
  where
    after : (kind : SyncKind) (endpoint : Endpoint) → at region rs n ≡ Some (task, kind, endpoint)
        → AreNested (n + 1) (open_regions rs task (n + 1))
    after kind Begin says =
        nested_same (n + 1) _ (n ∷ open_regions rs task n) (open_own rs task n kind Begin says) (
          All-cons (λ x. x < n + 1) n (open_regions rs task n) (omega arith)
              (nested_later n (open_regions rs task n) so_far).0,
          AllPairs-cons (λ x y. y < x) n (open_regions rs task n) so_far.0 so_far.1,
        )
    after kind BeginEnd says =
        nested_same (n + 1) _ (open_regions rs task n) (open_own rs task n kind BeginEnd says)
        (nested_later n (open_regions rs task n) so_far)
    after kind End says =
        nested_same (n + 1) _ (drop 1 (open_regions rs task n)) (open_own rs task n kind End says)
        (nested_rest (n + 1) (open_regions rs task n) (nested_later n (open_regions rs task n) so_far))

    more : (o : Option (ℕ × SyncKind × Endpoint)) → at region rs n ≡ o
        → AreNested (n + 1) (open_regions rs task (n + 1))
    more None e =
        nested_same (n + 1) _ (open_regions rs task n) (open_none rs task n e)
        (nested_later n (open_regions rs task n) so_far)
    more (Some (own, kind, endpoint)) e = elim (cases_eq task own) [
      | inl is_own ↦ after kind endpoint (e ∙ ap (λ t. Some (t, kind, endpoint)) (sym is_own))
      | inr apart ↦
          nested_same (n + 1) _ (open_regions rs task n) (open_other rs task own n kind endpoint e apart)
          (nested_later n (open_regions rs task n) so_far)
    ]

open_nested : (rs : List Record) (task n : ℕ) → AreNested n (open_regions rs task n)
open_nested rs task zero = (All-nil (λ x. x < zero), λ i j d less within. absurd (omega (arith, within)))
open_nested rs task (suc n) =
    let P : ℕ → Type 0 = λ m. AreNested m (open_regions rs task m) in
    subst P (add-one n) (nested_more rs task n (open_nested rs task n))

-- the regions that are open behind the end of one began before it
pub outer_before : (rs : List Record) (task n begin other : ℕ) (kind : SyncKind)
    → at region rs n ≡ Some (task, kind, End) → slice_get (open_regions rs task n) 0 ≡ Some begin
    → Contains (open_regions rs task (n + 1)) other → other ≤ begin
outer_before rs task n begin other kind ends innermost found =
    let P : List ℕ → Type 0 = λ l. Contains l other in
    of (open_regions rs task n) innermost (open_nested rs task n).1
    (subst P (open_own rs task n kind End ends) found)
  where
    of : (opened : List ℕ) → slice_get opened 0 ≡ Some begin → AllPairs (λ x y. y < x) opened
        → Contains (drop 1 opened) other → other ≤ begin
    of [] first falling has = absurd (none-some begin first)
    of (x ∷ xs) first falling (k, below, is) =
        let less : get_or (x ∷ xs) (suc k) other < get_or (x ∷ xs) 0 other =
        falling 0 (suc k) other (omega arith) (omega (arith, below)) in
        let is_begin : x ≡ begin = same_Some x begin first in
        omega (arith, less, is, is_begin)

-- one record more leaves it
node_later : (done : DoneView) (n task number : ℕ) (node : Node) → number < n
    → IsNodeLeast done n task number node → IsNodeLeast done (n + 1) task number node
node_later done n task number node below is = record {
  floor = is.floor;
  low = is.low;
  least = is.least;
  apart = λ begin found less. elim (open_before (records_of done) task n begin found) [
    | inl last ↦ absurd (omega (arith, last, less, below))
    | inr before ↦ is.apart begin before less
  ];
}

-- ---- the chains of all tasks

-- each link of the pushed list is to an earlier node
falls_on : (nodes : List Node) (new : Node) → AreFalling nodes
    → ((next : ℕ) → new.previous ≡ Some next → next < length nodes) → AreFalling (nodes ++ new ∷ [])
falls_on nodes new falls known place next node there is = elim (pushed_cases nodes new node place there) [
  | inl old ↦ falls place next node old is
  | inr last ↦
      let less = known next (ap (λ (n : Node). n.previous) last.1 ∙ is) in
      let here_it_is = last.0 in omega (arith, less, here_it_is)
]

-- the nodes of an old chain keep theirs
pushed_least : (done : DoneView) (nodes : List Node) (new : Node) (task number : ℕ) (head : Option ℕ)
    (node : Node)
    → AreFalling nodes → ((top : ℕ) → head ≡ Some top → top < length nodes)
    → (IsOnChain nodes head number → slice_get nodes number ≡ Some node
    → IsNodeLeast done (length nodes) task number node)
    → IsOnChain (nodes ++ new ∷ []) head number → slice_get (nodes ++ new ∷ []) number ≡ Some node
    → IsNodeLeast done (length (nodes ++ new ∷ [])) task number node
pushed_least done nodes new task number head node falls old least on there =
    let on_old = chain_was nodes new head number falls old on in
    let below = chain_below nodes head number falls old on_old in
    let P : ℕ → Type 0 = λ n. IsNodeLeast done n task number node in
    subst P (sym (length_push nodes new))
    (node_later done (length nodes) task number node below
    (least on_old (old_node nodes new node number below there)))

-- a node that no chain begins with
pub chains_other : (done : DoneView) (nodes : List Node) (new : Node) (heads : List (Option ℕ))
    → AreChains done nodes heads → new.previous ≡ None → at creation (records_of done) (length nodes) ≡ None
    → AreChains done (nodes ++ new ∷ []) heads
chains_other done nodes new heads are alone none = record {
  all = are.all;
  known =
      λ index head stands.
      let less = are.known index head stands in
      let count = length_push nodes new in omega (arith, less, count);
  falling = falls_on nodes new are.falling (λ next is. absurd (none-some next (sym alone ∙ is)));
  each = λ index task c child head is_task stands less creates. elim (cases_eq c (length nodes)) [
    | inl last ↦
        absurd (none-some (task, child) (sym none ∙ ap (at creation (records_of done)) (sym last) ∙ creates))
    | inr apart ↦
        let count = length_push nodes new in
        node_stays done nodes new head c child
        (are.each index task c child head is_task stands (omega (arith, less, count, apart)) creates)
  ];
  least = λ index task number head node is_task stands on there.
      pushed_least done nodes new task number head node are.falling
      (λ top is. are.known index top (stands ∙ ap Some is))
      (λ old was. are.least index task number head node is_task stands old was) on there;
}

-- a node that the chain of one task begins with now: each of its children keeps its node, or the new one
-- stands for it
pub chains_more : (done : DoneView) (nodes : List Node) (new : Node) (heads : List (Option ℕ)) (own task : ℕ)
    → AreApart (tasks_of done) → AreChains done nodes heads → slice_get (tasks_of done) own ≡ Some task
    → ((next : ℕ) → new.previous ≡ Some next → next < length nodes)
    → ((other child : ℕ) → at creation (records_of done) (length nodes) ≡ Some (other, child)
    → (other ≡ task) × IsFamilyLimit done child new.limit)
    → ((c child : ℕ) (head : Option ℕ) → slice_get heads own ≡ Some head → c < length nodes
    → HasNode done nodes head c child
    → HasNode done nodes new.previous c child ⊎ IsFamilyLimit done child new.limit)
    → IsNodeLeast done (length nodes + 1) task (length nodes) new
    → ((number : ℕ) (node : Node) → IsOnChain nodes new.previous number → slice_get nodes number ≡ Some node
    → IsNodeLeast done (length nodes) task number node)
    → AreChains done (nodes ++ new ∷ []) (set heads own (Some (length nodes)))
chains_more done nodes new heads own task apart are is_own known makes kept new_least rest_least = record {
  all = length-set heads own top ∙ are.all;
  known = λ index head stands. elim (cases_eq index own) [
    | inl same ↦
        let last =
        same_Some (length nodes) head
        (same_Some top (Some head)
        (sym (get_set_same heads own top within) ∙ ap (slice_get (set heads own top)) (sym same)
        ∙ stands)) in
        let count = length_push nodes new in omega (arith, last, count)
    | inr different ↦
        let less = are.known index head (sym (get_set_other heads own index top different) ∙ stands) in
        let count = length_push nodes new in omega (arith, less, count)
  ];
  falling = falls_on nodes new are.falling known;
  each = λ index other c child head is_task stands less creates. elim (cases_eq index own) [
    | inl same ↦
        let is_head : top ≡ head =
        same_Some top head
        (sym (get_set_same heads own top within) ∙ ap (slice_get (set heads own top)) (sym same)
        ∙ stands) in
        let P : Option ℕ → Type 0 = λ h. HasNode done (nodes ++ new ∷ []) h c child in
        subst P is_head (mine c child (task_is index other same is_task) less creates)
    | inr different ↦ elim (cases_eq c (length nodes)) [
      | inl last ↦
          let makes_it = makes other child (ap (at creation (records_of done)) (sym last) ∙ creates) in
          absurd (different (apart index own task (is_task ∙ ap Some makes_it.0) is_own))
      | inr earlier ↦
          let count = length_push nodes new in
          node_stays done nodes new head c child
          (are.each index other c child head is_task
          (sym (get_set_other heads own index top different) ∙ stands)
          (omega (arith, less, count, earlier)) creates)
    ]
  ];
  least = λ index other number head node is_task stands on there. elim (cases_eq index own) [
    | inl same ↦
        let is_head : top ≡ head =
        same_Some top head
        (sym (get_set_same heads own top within) ∙ ap (slice_get (set heads own top)) (sym same)
        ∙ stands) in
        let P : ℕ → Type 0 = λ t. IsNodeLeast done (length (nodes ++ new ∷ [])) t number node in
        subst P (sym (task_is index other same is_task)) (own_least number head node (sym is_head) on there)
    | inr different ↦
        let was = sym (get_set_other heads own index top different) ∙ stands in
        pushed_least done nodes new other number head node are.falling
        (λ high is. are.known index high (was ∙ ap Some is))
        (λ old there_old. are.least index other number head node is_task was old there_old) on there
  ];
}
  where
    top : Option ℕ
    top = Some (length nodes)

    within : own < length heads
    within =
        let inside = slice_get_within (tasks_of done) own task is_own in
        let count = are.all in omega (arith, inside, count)

    task_is : (index other : ℕ) → index ≡ own → slice_get (tasks_of done) index ≡ Some other → other ≡ task
    task_is index other same is_task =
        same_Some other task (sym is_task ∙ ap (slice_get (tasks_of done)) same ∙ is_own)

    new_there : slice_get (nodes ++ new ∷ []) (length nodes) ≡ Some new
    new_there = get_last nodes new (length nodes) refl

    -- the new node, or one of those that it links to
    own_least : (number : ℕ) (head : Option ℕ) (node : Node) → head ≡ top
        → IsOnChain (nodes ++ new ∷ []) head number → slice_get (nodes ++ new ∷ []) number ≡ Some node
        → IsNodeLeast done (length (nodes ++ new ∷ [])) task number node
    own_least number head node is here there =
        let last : number ≡ length nodes = same_Some number (length nodes) is in
        let is_new : new ≡ node =
        same_Some new node (sym new_there ∙ ap (slice_get (nodes ++ new ∷ [])) (sym last) ∙ there) in
        let P : ℕ → Type 0 = λ n. IsNodeLeast done n task number node in
        let Q : ℕ → Type 0 = λ k. IsNodeLeast done (length nodes + 1) task k node in
        let R : Node → Type 0 = λ x. IsNodeLeast done (length nodes + 1) task (length nodes) x in
        subst P (sym (length_push nodes new)) (subst Q (sym last) (subst R is_new new_least))
    own_least number head node is (later {head = from} {node = step} step_there rest) there =
        let last : from ≡ length nodes = same_Some from (length nodes) is in
        let is_new : new ≡ step =
        same_Some new step (sym new_there ∙ ap (slice_get (nodes ++ new ∷ [])) (sym last) ∙ step_there) in
        let P : Node → Type 0 = λ x. IsOnChain (nodes ++ new ∷ []) x.previous number in
        pushed_least done nodes new task number new.previous node are.falling known
        (rest_least number node) (subst P (sym is_new) rest) there

    by_new : (c child : ℕ) → c ≤ length nodes → IsFamilyLimit done child new.limit
        → HasNode done (nodes ++ new ∷ []) (Some (length nodes)) c child
    by_new c child low limit = record {
      number = length nodes;
      node = new;
      on = here;
      there = new_there;
      after = low;
      limit = limit;
    }

    linked : (c child : ℕ) → HasNode done nodes new.previous c child
        → HasNode done (nodes ++ new ∷ []) (Some (length nodes)) c child
    linked c child has = record {
      number = has.number;
      node = has.node;
      on = later new_there (chain_stays nodes new new.previous has.number has.on);
      there = get_pushed nodes new has.node has.number has.there;
      after = has.after;
      limit = has.limit;
    }

    mine : {other : ℕ} (c child : ℕ) → other ≡ task → c < length (nodes ++ new ∷ [])
        → at creation (records_of done) c ≡ Some (other, child)
        → HasNode done (nodes ++ new ∷ []) (Some (length nodes)) c child
    mine {other} c child is_it less creates = elim (cases_eq c (length nodes)) [
      | inl last ↦
          by_new c child (omega (arith, last))
          (makes other child (ap (at creation (records_of done)) (sym last) ∙ creates)).1
      | inr earlier ↦
          let count = length_push nodes new in
          let below : c < length nodes = omega (arith, less, count, earlier) in
          let head = get_or heads own None in
          let stands = slice_get-get_or heads own None within in
          elim
          (kept c child head stands below
          (are.each own task c child head is_own stands below
          (creates ∙ ap (λ t. Some (t, child)) is_it))) [
            | inl has ↦ linked c child has
            | inr limit ↦ by_new c child (omega (arith, below)) limit
          ]
    ]
