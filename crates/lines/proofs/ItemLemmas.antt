-- The items of a list, written one after another.
use Rattle.std.proofs.Common.{◌≡◌, ℕ, zero, suc, ◌+◌, ◌<◌, ◌≤◌, Bool, true, false, cond, List, [], ◌∷◌, ◌++◌}
use Rattle.std.proofs.Common.{length, map, drop, get_or, arith, sym, ap, ◌∙◌, append_assoc}
use Rattle.std.proofs.Common.{subst}
use Rattle.std.specs.Prelude.{Result, Ok, Err, OnOk, Some, slice_get}
use Rattle.std.specs.List.{AllByRecursion}
use Rattle.std.proofs.lemmas.List.{drop_more, drop_all}
use Rattle.std.proofs.lemmas.Option.{slice_get_within, get_or_from_slice_get}
use Rattle.bitflags.proofs.Tables.{row-at}
use Rattle.bitflags.specs.Sets.{Row}
use Rattle.json.specs.Print.{quoted}
use Rattle.serde_json.specs.Data.{Data, string}
use Rattle.serde_json.specs.View.{items_of}
use Rattle.serde_json.specs.Written.{compact_text, items_text, comma_if}
use Rattle.ompt_events.specs.Flags.{has_flag}
use Rattle.lines.specs.Texts.{Puts, flag_names, is_plain_text}
use Rattle.lines.proofs.JsonLemmas.{escape-plain}

-- a text needs no escape
pub quoted-plain : (text name : List ℕ) → is_plain_text name ≡ true
    → text ++ quoted name ≡ text ++ ((34 ∷ []) ++ (name ++ (34 ∷ [])))
quoted-plain text name plain = ap (λ (s : List ℕ). text ++ (34 ∷ (s ++ 34 ∷ []))) (escape-plain name plain)

-- the same, written as a text and a quotation mark, twice
pub quoted-parts : (text name : List ℕ) → is_plain_text name ≡ true
    → text ++ quoted name ≡ (text ++ (34 ∷ [])) ++ (name ++ (34 ∷ []))
quoted-parts text name plain =
    quoted-plain text name plain ∙ sym (append_assoc text (34 ∷ []) (name ++ (34 ∷ [])))

-- a step more where an answer is `Ok`
pub on_ok : {X E P Q : Type 0} (r : Result X E) → (P → Q) → OnOk r P → OnOk r Q
on_ok (Ok x) more before = more before
on_ok (Err e) more before = before

-- what was put and what is left to put are the whole
pub record IsPut {X : Type 0} (f : X → Data) (left : List X) (later : Bool) (start now whole : List ℕ) : Type
    0 where
  pub done : List ℕ
  pub puts : Puts start now done
  pub rest : done ++ items_text later (items_of (map f left)) ≡ whole

pub item-more : {X : Type 0} (f : X → Data) (x : X) (left : List X) (later : Bool) (done whole : List ℕ)
    → done ++ items_text later (items_of (map f (x ∷ left))) ≡ whole
    → (done ++ (comma_if later ++ compact_text (f x))) ++ items_text true (items_of (map f left)) ≡ whole
item-more f x left later done whole rest =
    append_assoc done (comma_if later ++ compact_text (f x)) (items_text true (items_of (map f left)))
    ∙ ap (λ bytes. done ++ bytes)
    (append_assoc (comma_if later) (compact_text (f x)) (items_text true (items_of (map f left))))
    ∙ rest

pub Puts-both : (old mid new a b : List ℕ) → Puts old mid a → Puts mid new b → Puts old new (a ++ b)
Puts-both old mid new a b first next = record {
  is = next.is ∙ ap (λ bytes. bytes ++ b) first.is ∙ append_assoc old a b;
}

pub Puts-same : (old new a b : List ℕ) → b ≡ a → Puts old new a → Puts old new b
Puts-same old new a b same puts = record { is = puts.is ∙ ap (λ bytes. old ++ bytes) (sym same) }

-- the next item is put
pub IsPut-more : {X : Type 0} (f : X → Data) (x : X) (left : List X) (later : Bool)
    (start now new whole : List ℕ)
    → IsPut f (x ∷ left) later start now whole → Puts now new (comma_if later ++ compact_text (f x))
    → IsPut f left true start new whole
IsPut-more f x left later start now new whole before puts = record {
  done = before.done ++ (comma_if later ++ compact_text (f x));
  puts = Puts-both start now new before.done (comma_if later ++ compact_text (f x)) before.puts puts;
  rest = item-more f x left later before.done whole before.rest;
}

-- the next item of a list that is read item by item
pub IsPut-at : {X : Type 0} (f : X → Data) (items : List X) (at : ℕ) (x : X) (later : Bool)
    (start now new whole : List ℕ)
    → slice_get items at ≡ Some x → IsPut f (drop at items) later start now whole
    → Puts now new (comma_if later ++ compact_text (f x))
    → IsPut f (drop (at + 1) items) true start new whole
IsPut-at f items at x later start now new whole is before puts =
    let left : drop at items ≡ x ∷ drop (at + 1) items =
    drop_more items at x (slice_get_within items at x is)
    ∙ ap (λ y. y ∷ drop (at + 1) items) (get_or_from_slice_get items at x x is) in
    IsPut-more f x (drop (at + 1) items) later start now new whole
    (subst (λ rest. IsPut f rest later start now whole) left before) puts

-- ---- names of flags

pub names-left : (table : List Row) (bits i : ℕ) (row : Row) → i < length table → get_or table i row ≡ row
    → flag_names (drop i table) bits
    ≡ cond (has_flag bits row.1) (row.0 ∷ flag_names (drop (i + 1) table) bits)
    (flag_names (drop (i + 1) table) bits)
unfolding flag_names
names-left table bits i row within here =
    let left : drop i table ≡ row ∷ drop (i + 1) table =
    drop_more table i row within ∙ ap (λ y. y ∷ drop (i + 1) table) here in
    ap (λ (rows : List Row). flag_names rows bits) left

-- the next flag is among the bits
pub IsPut-with : {X : Type 0} (row : X → Row) (flags : List X) (table : List Row) (bits i : ℕ) (x : X)
    (later : Bool) (start now new whole : List ℕ)
    → map row flags ≡ table → i < length flags → x ≡ get_or flags i x
    → IsPut string (flag_names (drop i table) bits) later start now whole → has_flag bits (row x).1 ≡ true
    → Puts now new (comma_if later ++ quoted (row x).0)
    → IsPut string (flag_names (drop (i + 1) table) bits) true start new whole
IsPut-with row flags table bits i x later start now new whole same within here before has puts =
    let at = row-at row flags table i x same within here in
    let left : flag_names (drop i table) bits ≡ (row x).0 ∷ flag_names (drop (i + 1) table) bits =
    names-left table bits i (row x) at.0 at.1
    ∙ ap
    (λ b.
    cond b ((row x).0 ∷ flag_names (drop (i + 1) table) bits)
    (flag_names (drop (i + 1) table) bits))
    has in
    IsPut-more string (row x).0 (flag_names (drop (i + 1) table) bits) later start now new whole
    (rw left at before) puts

-- the next flag is not
pub IsPut-without : {X : Type 0} (row : X → Row) (flags : List X) (table : List Row) (bits i : ℕ) (x : X)
    (later : Bool) (start now whole : List ℕ)
    → map row flags ≡ table → i < length flags → x ≡ get_or flags i x
    → IsPut string (flag_names (drop i table) bits) later start now whole → has_flag bits (row x).1 ≡ false
    → IsPut string (flag_names (drop (i + 1) table) bits) later start now whole
IsPut-without row flags table bits i x later start now whole same within here before lacks =
    let at = row-at row flags table i x same within here in
    let left : flag_names (drop i table) bits ≡ flag_names (drop (i + 1) table) bits =
    names-left table bits i (row x) at.0 at.1
    ∙ ap
    (λ b.
    cond b ((row x).0 ∷ flag_names (drop (i + 1) table) bits)
    (flag_names (drop (i + 1) table) bits))
    lacks in
    (rw left at before)

pub no_flag_left : (table : List Row) (bits i : ℕ) → length table ≤ i → flag_names (drop i table) bits ≡ []
unfolding flag_names
no_flag_left table bits i past = ap (λ (rows : List Row). flag_names rows bits) (drop_all i table past)

pub all_names_put : (left : List (List ℕ)) (later : Bool) (start now new whole : List ℕ) → left ≡ []
    → IsPut string left later start now whole → Puts now new (93 ∷ []) → Puts start new whole
all_names_put left later start now new whole none before puts =
    let all : IsPut string [] later start now whole = (rw none at before) in
    Puts-same start new (all.done ++ (93 ∷ [])) whole (sym all.rest)
    (Puts-both start now new all.done (93 ∷ []) all.puts puts)

-- what holds of each row
pub row-plain : {X : Type 0} (row : X → Row) (flags : List X) (table : List Row) (i : ℕ) (x : X)
    → map row flags ≡ table → i < length flags → x ≡ get_or flags i x
    → AllByRecursion (λ (r : Row). is_plain_text r.0 ≡ true) table → is_plain_text (row x).0 ≡ true
row-plain row flags table i x same within here all =
    let at = row-at row flags table i x same within here in
    rw at.1 at (find table i at.0 all)
  where
    find : (rows : List Row) (k : ℕ) → k < length rows
        → AllByRecursion (λ (r : Row). is_plain_text r.0 ≡ true) rows
        → is_plain_text (get_or rows k (row x)).0 ≡ true
    find [] k within all = absurd (omega arith)
    find (r ∷ rows) zero within all = all.0
    find (r ∷ rows) (suc k) within all = find rows k (omega arith) all.1
