-- How columns grow, and what they have of the record at a place.
use Rattle.std.proofs.Common.{ℕ, ◌≡◌, ◌∙◌, ◌<◌, List, [], ◌∷◌, ◌++◌, length, get_or, Option, Some, refl, sym}
use Rattle.std.proofs.Common.{ap, arith}
use Rattle.std.specs.Prelude.{map, slice_get, option_and_then, option_map}
use Rattle.std.proofs.lemmas.List.{map-append}
use Rattle.std.proofs.lemmas.Option.{same_Some, slice_get-map, slice_get_read, slice_get_within}
use Rattle.ompt_events.specs.declared.records.Record.{Record}
use Rattle.ompt_events.specs.declared.records.Body.{Body}
use Rattle.ompt_events.specs.Places.{at}
use Rattle.std.specs.Prelude.{Result, Ok, Err, OnOk}
use Rattle.std.specs.Global.{Vec}
use Rattle.std.specs.declared.alloc.AllocError.{AllocError}
use Rattle.std.proofs.lemmas.List.{length-map}
use Rattle.ompt_events.specs.declared.deps.Dep.{Dep}
use Rattle.ompt_events.specs.declared.records.Claim.{Claim}
use Rattle.ompt_events.specs.Records.{claim}
use Rattle.ompt_events.proofs.ListLemmas.{get_within}
use Rattle.packed_trace.specs.declared.act.PackedEvent.{PackedEvent}
use Rattle.packed_trace.specs.declared.columns.Columns.{Columns}
use Rattle.packed_trace.specs.declared.ids.Ids.{Ids}
use Rattle.packed_trace.specs.declared.columns.Numbers.{Numbers}
use Rattle.packed_trace.specs.declared.sparse.Sparse.{Sparse}
use Rattle.packed_trace.specs.Packed.{ids_of, listed_deps, numbers_of, packed}
use Rattle.packed_trace.specs.Sparse.{AddsItem}
use Rattle.packed_trace.specs.Columns.{AreColumns}
use Rattle.packed_trace.proofs.SparseLemmas.{sparse_more}

-- one entry more for one record more
pub column_more : {Y : Type 0} (keep : Record → Y) (rs : List Record) (r : Record) (column more : List Y)
    (y : Y)
    → column ≡ map keep rs → y ≡ keep r → more ≡ column ++ y ∷ [] → more ≡ map keep (rs ++ r ∷ [])
column_more keep rs r column more y are is pushed =
    pushed ∙ ap (λ e. column ++ e ∷ []) is ∙ ap (λ c. c ++ keep r ∷ []) are ∙ sym
    (map-append keep rs (r ∷ []))

-- the entry at a place is that of the record there
pub column_there : {Y : Type 0} (keep : Record → Y) (rs : List Record) (column : List Y) (i : ℕ) (y : Y)
    → i < length column → y ≡ get_or column i y → column ≡ map keep rs
    → option_map keep (slice_get rs i) ≡ Some y
column_there keep rs column i y within is are =
    sym (slice_get-map keep rs i) ∙ ap (λ c. slice_get c i) (sym are)
    ∙ slice_get_read column (length column) i y refl within is

-- what is so of the body of the record at a place is so there
pub said_there : {X : Type 0} (says : Body → Option X) (rs : List Record) (i : ℕ) (value : Option X)
    → i < length rs → ((body : Body) → at Some rs i ≡ Some body → says body ≡ value) → at says rs i ≡ value
said_there says rs i value within all =
    let there = get_within rs i within in
    ap (option_and_then (λ (r : Record). says r.body)) there.1
    ∙ all there.0.body (ap (option_and_then (λ (r : Record). Some r.body)) there.1)

-- all columns grow by one record, whose claim and list these are
pub added : (rs : List Record) (r : Record) (old : Columns) (events : Vec PackedEvent) (ids : List Ids)
    (numbers : Vec Numbers) (seqs : Vec ℕ) (claims : Sparse Claim) (lists : Sparse (List Dep))
    (result : Result (Unit {0}) AllocError) → AreColumns rs old
    → events.items ≡ map packed (rs ++ r ∷ [])
    → ids ≡ map (λ (q : Record). ids_of q.body) (rs ++ r ∷ [])
    → numbers.items ≡ map (λ (q : Record). numbers_of q.body) (rs ++ r ∷ [])
    → seqs.items ≡ map (λ (q : Record). q.seq) (rs ++ r ∷ []) → (place : ℕ) → place ≡ length old.events.items
    → (claimed : Option Claim) (listed : Option (List Dep))
    → OnOk result (claim r.body ≡ claimed) → OnOk result (listed_deps r.body ≡ listed)
    → OnOk result (AddsItem old.claims.places.items old.claims.items.items claims.places.items
    claims.items.items
    place claimed)
    → OnOk result (AddsItem old.lists.places.items old.lists.items.items lists.places.items lists.items.items
    place listed)
    → OnOk result (AreColumns (rs ++ r ∷ []) (record {
      events = events;
      ids = ids;
      numbers = numbers;
      seqs = seqs;
      claims = claims;
      lists = lists;
    }))
added rs r old events ids numbers seqs claims lists (Err fault) are is_events is_ids is_numbers is_seqs place
    at
    claimed listed claims_r lists_r claims_more lists_more =
    tt
added rs r old events ids numbers seqs claims lists (Ok done) are is_events is_ids is_numbers is_seqs place at
    claimed listed claims_r lists_r claims_more lists_more =
    let here : place ≡ length rs = at ∙ ap length are.events ∙ length-map rs packed in
    record {
      events = is_events;
      ids = is_ids;
      numbers = is_numbers;
      seqs = is_seqs;
      claims =
          sparse_more claim rs r old.claims.places.items old.claims.items.items claims.places.items
          claims.items.items claimed claims_r are.claims (rw here at claims_more);
      lists =
          sparse_more listed_deps rs r old.lists.places.items old.lists.items.items lists.places.items
          lists.items.items listed lists_r are.lists (rw here at lists_more);
    }

-- what a column has at a place is what it keeps of the record there
pub kept_there : {Y : Type 0} (keep : Record → Y) (rs : List Record) (column : List Y) (i : ℕ) (r : Record)
    (y : Y) → slice_get rs i ≡ Some r → column ≡ map keep rs → y ≡ get_or column i y → y ≡ keep r
kept_there keep rs column i r y stands are is =
    let within = slice_get_within rs i r stands in
    let all : length column ≡ length rs = ap length are ∙ length-map rs keep in
    same_Some y (keep r)
    (sym (column_there keep rs column i y (omega (arith, within, all)) is are) ∙ ap (option_map keep) stands)

pub same_there : {Y : Type 0} (keep : Record → Y) (rs : List Record) (column : List Y) (i : ℕ) (r : Record)
    (y : Y) → slice_get rs i ≡ Some r → column ≡ map keep rs → slice_get column i ≡ Some y → y ≡ keep r
same_there keep rs column i r y stands are is =
    same_Some y (keep r)
    (sym is ∙ ap (λ c. slice_get c i) are ∙ slice_get-map keep rs i ∙ ap (option_map keep) stands)

pub ok_always : {E P : Type 0} (result : Result (Unit {0}) E) → P → OnOk result P
ok_always (Err fault) holds = tt
ok_always (Ok done) holds = holds
