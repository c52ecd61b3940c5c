-- What JSON means, by its tokens.
use Rattle.std.proofs.Common.{◌≡◌, ◌<◌, map, drop, get_or, ℕ, ◌+◌, ◌≤◌, Bool, true, false, List, [], ◌∷◌}
use Rattle.std.proofs.Common.{◌++◌, length, Option, Some, None, Result, Ok, Err, option_map, option_and_then}
use Rattle.std.proofs.Common.{cond, arith, refl, sym, ap, ◌∙◌, subst, append-nil, append_assoc, length-append}
use Rattle.std.proofs.Common.{add-one, drop-cons}
use Rattle.std.specs.Prelude.{IsSome, IfSome, is_some, IsUtf8}
use Rattle.std.specs.Str.{bytes_eq}
use Rattle.std.proofs.Math.ListN.{drop_of_length-le}
use Rattle.std.proofs.lemmas.Slice.Eq.{bytes_eq-Decides}
use Rattle.json.specs.Json as json
use Rattle.json.specs.Token.{Token}
use Rattle.json.specs.Token as token
use Rattle.json.specs.Lex.{tokens}
use Rattle.json.specs.Tape.{node_token}
use Rattle.json.specs.declared.tape.Node.{Node}
use Rattle.json.specs.Find as find
use Rattle.json.specs.Find.{BeginsWith, HasValue, Finds, later_or}
use Rattle.json.specs.Tree.{json_tokens, items_tokens, members_tokens, depth, items_depth, members_depth}
use Rattle.json.proofs.Printed.Trees.{value-json_tokens}
use Rattle.json.proofs.Unique.Spelling.{value-json_tokens_back, tokens-document}
use Rattle.json.proofs.Nesting.{value-depth}
use Rattle.serde_json.specs.Data.{Num, Data, number, array, object, Items, item, Members, no_members, put}
use Rattle.serde_json.specs.Read.{read, max_depth, number_of, of_json, of_items, of_members}
use Rattle.serde_json.specs.Find.{get, get_member, as_str, as_bool, as_u64, as_array}
use Rattle.lines.specs.Members.{whole_of, nullable, each, flag_of, flags_from}
use Rattle.std.specs.Int.RustNames.{bit_or}
use Rattle.serde_json.proofs.Views.{get_member-put, get_member-put_other}
use Rattle.lines.specs.declared.cause.ReadCause.{ReadCause}
use Rattle.lines.specs.declared.cause.ReadCause.TheVariants.{NotJson}
use Rattle.lines.specs.RecordLines.{value_or_cause}
use Rattle.lines.proofs.MemberLemmas.{value_or_cause-json, value_or_cause-none}
use Rattle.lines.specs.Meanings.{number_or_odd, meant, items_meant, members_meant, meant_read, meant_at}
use Rattle.lines.specs.Meanings.{IsRanged, AreRanged, ArePlainTokens, opening, opened}

-- ---- JSON that is read

what_is_made : {A B : Type 0} (f : A → B) (o : Option A) (a : A) (b : B) → option_map f o ≡ Some b
    → ((x : A) → o ≡ Some x → a ≡ x) → f a ≡ b
what_is_made f None a b e h = absurd (let no : None ≡ Some b = e in cc)
what_is_made f (Some x) a b e h = let is : f x ≡ b = cc in ap f (h x refl) ∙ is

both_items : (o : Option Data) (p : Option Items) (d : Data) (ds all : Items)
    → option_and_then (λ x. option_map (item x) p) o ≡ Some all → ((x : Data) → o ≡ Some x → d ≡ x)
    → ((xs : Items) → p ≡ Some xs → ds ≡ xs) → item d ds ≡ all
both_items None p d ds all e first more = absurd (let no : None ≡ Some all = e in cc)
both_items (Some x) p d ds all e first more =
    ap (λ y. item y ds) (first x refl) ∙ what_is_made (item x) p ds all e more

number_made : (o : Option Num) (d : Data) → option_map number o ≡ Some d → number (number_or_odd o) ≡ d
number_made None d e = absurd (let no : None ≡ Some d = e in cc)
number_made (Some n) d e = cc

next_member : (ms : json.Members) (k : List ℕ) (found all : Members) (o : Option Data) (d : Data)
    → option_and_then (λ x. of_members ms (put k x found)) o ≡ Some all → ((x : Data) → o ≡ Some x → d ≡ x)
    → of_members ms (put k d found) ≡ Some all
next_member ms k found all None d e h = absurd (let no : None ≡ Some all = e in cc)
next_member ms k found all (Some x) d e h = ap (λ y. of_members ms (put k y found)) (h x refl) ∙ e

mutual
  meant-of_json : (j : json.Json) (d : Data) → of_json j ≡ Some d → meant j ≡ d
  meant-of_json json.null d e = cc
  meant-of_json (json.boolean b) d e = cc
  meant-of_json (json.number s) d e = number_made (number_of s) d e
  meant-of_json (json.string s) d e = cc
  meant-of_json (json.array js) d e =
      what_is_made array (of_items js) (items_meant js) d e (meant-of_items js)
  meant-of_json (json.object ms) d e =
      what_is_made object (of_members ms no_members) (members_meant ms no_members) d e
      (meant-of_members ms no_members)

  meant-of_items : (js : json.Items) (ds : Items) → of_items js ≡ Some ds → items_meant js ≡ ds
  meant-of_items json.no_items ds e = cc
  meant-of_items (json.item j js) ds e =
      both_items (of_json j) (of_items js) (meant j) (items_meant js) ds e (meant-of_json j)
      (meant-of_items js)

  meant-of_members : (ms : json.Members) (found all : Members) → of_members ms found ≡ Some all
      → members_meant ms found ≡ all
  meant-of_members json.no_members found all e = cc
  meant-of_members (json.member k j ms) found all e =
      meant-of_members ms (put k (meant j) found) all
      (next_member ms k found all (of_json j) (meant j) e (meant-of_json j))

-- ---- numbers within a double's range

ranged-parts : (ts us : List Token) → AreRanged (ts ++ us) → AreRanged ts × AreRanged us
ranged-parts [] us h = (tt, h)
ranged-parts (t ∷ ts) us h = let later = ranged-parts ts us h.1 in ((h.0, later.0), later.1)

number_there : (o : Option Num) → IsSome o → option_map number o ≡ Some (number (number_or_odd o))
number_there None h = absurd (let no : false ≡ true = h in cc)
number_there (Some n) h = refl

mutual
  of_json-ranged : (j : json.Json) → AreRanged (json_tokens j) → of_json j ≡ Some (meant j)
  of_json-ranged json.null h = refl
  of_json-ranged (json.boolean b) h = refl
  of_json-ranged (json.number s) h = number_there (number_of s) h.0
  of_json-ranged (json.string s) h = refl
  of_json-ranged (json.array js) h = ap (option_map array) (of_items-ranged js h.1)
  of_json-ranged (json.object ms) h = ap (option_map object) (of_members-ranged ms no_members h.1)

  of_items-ranged : (js : json.Items) → AreRanged (items_tokens js) → of_items js ≡ Some (items_meant js)
  of_items-ranged json.no_items h = refl
  of_items-ranged (json.item j js) h =
      let both = ranged-parts (json_tokens j) (items_tokens js) h in
      rw (of_json-ranged j both.0, of_items-ranged js both.1) refl

  of_members-ranged : (ms : json.Members) (found : Members) → AreRanged (members_tokens ms)
      → of_members ms found ≡ Some (members_meant ms found)
  of_members-ranged json.no_members found h = refl
  of_members-ranged (json.member k j ms) found h =
      let both = ranged-parts (json_tokens j) (members_tokens ms) h.1 in
      ap (option_and_then (λ d. of_members ms (put k d found))) (of_json-ranged j both.0)
      ∙ of_members-ranged ms (put k (meant j) found) both.1

-- ---- nesting

opened-append : (ts us : List Token) → opened (ts ++ us) ≡ opened ts + opened us
opened-append [] us = omega arith
opened-append (t ∷ ts) us = omega (arith, opened-append ts us)

mutual
  depth-opened : (j : json.Json) → depth j ≤ opened (json_tokens j)
  depth-opened json.null = omega arith
  depth-opened (json.boolean b) = omega arith
  depth-opened (json.number s) = omega arith
  depth-opened (json.string s) = omega arith
  depth-opened (json.array js) = omega (arith, items_depth-opened js)
  depth-opened (json.object ms) = omega (arith, members_depth-opened ms)

  items_depth-opened : (js : json.Items) → items_depth js ≤ opened (items_tokens js)
  items_depth-opened json.no_items = omega arith
  items_depth-opened (json.item j js) =
      omega (arith, depth-opened j, items_depth-opened js, opened-append (json_tokens j) (items_tokens js))

  members_depth-opened : (ms : json.Members) → members_depth ms ≤ opened (members_tokens ms)
  members_depth-opened json.no_members = omega arith
  members_depth-opened (json.member k j ms) =
      omega
      (arith, depth-opened j, members_depth-opened ms, opened-append (json_tokens j) (members_tokens ms))

opening-one : (t : Token) → opening t ≤ 1
opening-one token.begin_object = omega arith
opening-one token.end_object = omega arith
opening-one token.begin_array = omega arith
opening-one token.end_array = omega arith
opening-one (token.key s) = omega arith
opening-one (token.string s) = omega arith
opening-one (token.number s) = omega arith
opening-one (token.boolean b) = omega arith
opening-one token.null = omega arith
opening-one token.bad = omega arith

opened-length : (ts : List Token) → opened ts ≤ length ts
opened-length [] = omega arith
opened-length (t ∷ ts) = omega (arith, opening-one t, opened-length ts)

-- ---- the value that tokens begin with

-- it is read at each depth that is deep enough
read_at : (ts rest : List Token) (j : json.Json) (d e : ℕ) → json.value d ts ≡ Some (j, rest) → depth j ≤ e
    → json.value e ts ≡ Some (j, rest)
read_at ts rest j d e is deep =
    let spelled : ts ≡ json_tokens j ++ rest = value-json_tokens_back d ts rest j is in
    ap (λ us. json.value e us) spelled ∙ value-json_tokens j e rest deep

pub meant_at-BeginsWith : (ts : List Token) (j : json.Json) → BeginsWith ts j → meant_at ts ≡ meant j
unfolding meant_at
meant_at-BeginsWith ts j (d, rest, is) =
    let spelled : ts ≡ json_tokens j ++ rest = value-json_tokens_back d ts rest j is in
    let deep : depth j ≤ length ts =
    omega (
      arith,
      depth-opened j,
      opened-length (json_tokens j),
      ap length spelled,
      length-append (json_tokens j) rest,
    ) in
    ap meant_read (read_at ts rest j d (length ts) is deep)

-- ---- the value of a text

last : (o : Option (json.Json × List Token)) (j : json.Json)
    → option_and_then (λ p. json.if_last p.0 p.1) o ≡ Some j → o ≡ Some (j, [])
last None j e = absurd (let no : None ≡ Some j = e in cc)
last (Some (i, [])) j e = let is : i ≡ j = cc in ap (λ x. Some (x, [])) is
last (Some (i, t ∷ ts)) j e = absurd (let no : None ≡ Some j = e in cc)

abbrev document_at : ℕ → List ℕ → Option json.Json
document_at d text = option_and_then (λ p. json.if_last p.0 p.1) (json.value d (tokens text))

-- what is read nests at most 127 deep, and is the document
read-parts : (text : List ℕ) (d : Data) → read text ≡ Some d
    → (j : json.Json) × (json.value max_depth (tokens text) ≡ Some (j, [])) × (of_json j ≡ Some d)
read-parts text d e = go (document_at max_depth text) refl e
  where
    go : (o : Option json.Json) → document_at max_depth text ≡ o → option_and_then of_json o ≡ Some d
        → (j : json.Json) × (json.value max_depth (tokens text) ≡ Some (j, [])) × (of_json j ≡ Some d)
    go None is h = absurd (let no : None ≡ Some d = h in cc)
    go (Some j) is h = (j, last _ j is, h)

document-read : (text : List ℕ) (j : json.Json) → json.value max_depth (tokens text) ≡ Some (j, [])
    → json.document text ≡ Some j
document-read text j is =
    ap (option_and_then (λ p. json.if_last p.0 p.1))
    (read_at (tokens text) [] j max_depth json.max_depth is
    (omega (arith, value-depth max_depth (tokens text) [] j is)))

-- the document, where it is read, is what it means
pub read-meant : (text : List ℕ) (j : json.Json) (d : Data) → json.document text ≡ Some j → read text ≡ Some d
    → read text ≡ Some (meant j)
read-meant text j d is e =
    let p = read-parts text d e in
    let same : j ≡ p.0 = (let both : Some j ≡ Some p.0 = sym is ∙ document-read text p.0 p.1 in cc) in
    let means : meant j ≡ d = ap meant same ∙ meant-of_json p.0 d p.2 in
    e ∙ ap Some (sym means)

pub not_read : (text : List ℕ) → json.document text ≡ None → read text ≡ None
not_read text none = go (read text) refl
  where
    go : (o : Option Data) → read text ≡ o → o ≡ None
    go None e = refl
    go (Some d) e =
        absurd
        (let p = read-parts text d e in
        let no : None ≡ Some p.0 = sym none ∙ document-read text p.0 p.1 in cc)

-- a document that nests at most 127 deep, and whose numbers are within a double's range, is read
pub read-ranged : (text : List ℕ) (j : json.Json) → json.document text ≡ Some j → AreRanged (tokens text)
    → opened (tokens text) ≤ max_depth → read text ≡ Some (meant j)
read-ranged text j is ranged few =
    let spelled : tokens text ≡ json_tokens j = tokens-document text j is in
    let deep : depth j ≤ max_depth = omega (arith, depth-opened j, ap opened spelled, few) in
    ap (λ o. option_and_then of_json (option_and_then (λ p. json.if_last p.0 p.1) o))
    (read_at (tokens text) [] j json.max_depth max_depth (last _ j is) deep)
    ∙ of_json-ranged j (subst (λ ts. AreRanged ts) spelled ranged)

-- ---- members

abbrev or_earlier : Option Data → Option Data → Option Data
or_earlier None o = o
or_earlier (Some d) o = Some d

with_later : (later : Option json.Json) (here : Bool) (j : json.Json) (o : Option Data)
    → or_earlier (option_map meant (later_or later (cond here (Some j) None))) o
    ≡ or_earlier (option_map meant later) (cond here (Some (meant j)) o)
with_later None true j o = refl
with_later None false j o = refl
with_later (Some g) here j o = refl

pub get_member-put_either : (name k : List ℕ) (d : Data) (found : Members)
    → get_member name (put k d found) ≡ cond (bytes_eq k name) (Some d) (get_member name found)
get_member-put_either name k d found =
    let decides = bytes_eq-Decides k name in
    elim (bytes_eq k name) as
    (λ b.
    (b ≡ true → k ≡ name) → (k ≡ name → b ≡ true)
    → get_member name (put k d found) ≡ cond b (Some d) (get_member name found)) [
      | true ↦ λ is _. subst (λ q. get_member q (put k d found) ≡ Some d) (is refl) (get_member-put k d found)
      | false ↦
          λ _ is. get_member-put_other name k d found (λ same. let no : false ≡ true = is (sym same) in cc)
    ] decides.0 decides.1

get_member-meant : (name : List ℕ) (ms : json.Members) (found : Members)
    → get_member name (members_meant ms found)
    ≡ or_earlier (option_map meant (find.get_member name ms)) (get_member name found)
get_member-meant name json.no_members found = refl
get_member-meant name (json.member k j ms) found =
    get_member-meant name ms (put k (meant j) found)
    ∙ ap (or_earlier (option_map meant (find.get_member name ms)))
    (get_member-put_either name k (meant j) found)
    ∙ sym (with_later (find.get_member name ms) (bytes_eq k name) j (get_member name found))

no_earlier : (o : Option Data) → or_earlier o None ≡ o
no_earlier None = refl
no_earlier (Some d) = refl

pub get-meant : (name : List ℕ) (j : json.Json) → get name (meant j) ≡ option_map meant (find.get name j)
get-meant name json.null = refl
get-meant name (json.boolean b) = refl
get-meant name (json.number s) = refl
get-meant name (json.string s) = refl
get-meant name (json.array js) = refl
get-meant name (json.object ms) =
    get_member-meant name ms no_members ∙ no_earlier (option_map meant (find.get_member name ms))

pub meant_at-Finds : (r : Option (List Token)) (o : Option json.Json) → Finds r o
    → option_map meant_at r ≡ option_map meant o
meant_at-Finds None o e = ap (option_map meant) (sym e)
meant_at-Finds (Some ts) o (j, is, begins) =
    ap Some (meant_at-BeginsWith ts j begins) ∙ ap (option_map meant) (sym is)

pub has_value-Finds : (r : Option (List Token)) (o : Option json.Json) → Finds r o → IfSome r HasValue
has_value-Finds None o e = tt
has_value-Finds (Some ts) o (j, is, begins) = (j, begins)

pub member-says : (name : List ℕ) (value : List Token) (h : HasValue value) (r : Option (List Token))
    → Finds r (find.get name h.0) → option_map meant_at r ≡ get name (meant_at value)
member-says name value h r found =
    meant_at-Finds r _ found ∙ sym (get-meant name h.0)
    ∙ ap (get name) (sym (meant_at-BeginsWith value h.0 h.1))

-- ---- single values

as_str-meant : (j : json.Json) → find.as_str j ≡ as_str (meant j)
as_str-meant json.null = refl
as_str-meant (json.boolean b) = refl
as_str-meant (json.number s) = refl
as_str-meant (json.string s) = refl
as_str-meant (json.array js) = refl
as_str-meant (json.object ms) = refl

as_bool-meant : (j : json.Json) → find.as_bool j ≡ as_bool (meant j)
as_bool-meant json.null = refl
as_bool-meant (json.boolean b) = refl
as_bool-meant (json.number s) = refl
as_bool-meant (json.string s) = refl
as_bool-meant (json.array js) = refl
as_bool-meant (json.object ms) = refl

abbrev pub id_text : List ℕ → Option ℕ
id_text s = as_u64 (number_or_odd (number_of s))

whole_of-meant : (j : json.Json) → option_and_then id_text (find.as_number j) ≡ whole_of (meant j)
whole_of-meant json.null = refl
whole_of-meant (json.boolean b) = refl
whole_of-meant (json.number s) = refl
whole_of-meant (json.string s) = refl
whole_of-meant (json.array js) = refl
whole_of-meant (json.object ms) = refl

nullable-null : (j : json.Json) → find.is_null j ≡ true → nullable (Some (meant j)) ≡ Some None
nullable-null json.null h = refl
nullable-null (json.boolean b) h = absurd (let no : false ≡ true = h in cc)
nullable-null (json.number s) h = absurd (let no : false ≡ true = h in cc)
nullable-null (json.string s) h = absurd (let no : false ≡ true = h in cc)
nullable-null (json.array js) h = absurd (let no : false ≡ true = h in cc)
nullable-null (json.object ms) h = absurd (let no : false ≡ true = h in cc)

nullable-other : (j : json.Json) → find.is_null j ≡ false
    → nullable (Some (meant j)) ≡ option_map Some (whole_of (meant j))
nullable-other json.null h = absurd (let no : true ≡ false = h in cc)
nullable-other (json.boolean b) h = refl
nullable-other (json.number s) h = refl
nullable-other (json.string s) h = refl
nullable-other (json.array js) h = refl
nullable-other (json.object ms) h = refl

pub text-says : (ts : List Token) (h : HasValue ts) → find.as_str h.0 ≡ as_str (meant_at ts)
text-says ts h = as_str-meant h.0 ∙ ap as_str (sym (meant_at-BeginsWith ts h.0 h.1))

pub truth-says : (ts : List Token) (h : HasValue ts) → find.as_bool h.0 ≡ as_bool (meant_at ts)
truth-says ts h = as_bool-meant h.0 ∙ ap as_bool (sym (meant_at-BeginsWith ts h.0 h.1))

pub whole-says : (ts : List Token) (h : HasValue ts) (r : Option (List ℕ)) → r ≡ find.as_number h.0
    → option_and_then id_text r ≡ whole_of (meant_at ts)
whole-says ts h r is =
    ap (option_and_then id_text) is ∙ whole_of-meant h.0 ∙ ap whole_of (sym (meant_at-BeginsWith ts h.0 h.1))

pub null-says : (ts : List Token) (h : HasValue ts) → find.is_null h.0 ≡ true
    → Some None ≡ nullable (Some (meant_at ts))
null-says ts h is =
    sym (nullable-null h.0 is) ∙ ap (λ d. nullable (Some d)) (sym (meant_at-BeginsWith ts h.0 h.1))

pub id-says : (ts : List Token) (h : HasValue ts) (r : Option ℕ) → find.is_null h.0 ≡ false
    → r ≡ whole_of (meant_at ts) → option_map Some r ≡ nullable (Some (meant_at ts))
id-says ts h r other is =
    let same : meant_at ts ≡ meant h.0 = meant_at-BeginsWith ts h.0 h.1 in
    ap (option_map Some) (is ∙ ap whole_of same) ∙ sym (nullable-other h.0 other)
    ∙ ap (λ d. nullable (Some d)) (sym same)

-- ---- lists

as_array-other : (j : json.Json) → find.as_array j ≡ None → as_array (meant j) ≡ None
as_array-other json.null h = refl
as_array-other (json.boolean b) h = refl
as_array-other (json.number s) h = refl
as_array-other (json.string s) h = refl
as_array-other (json.array js) h = absurd (let no : None ≡ Some js = sym h in cc)
as_array-other (json.object ms) h = refl

pub no_list-says : (ts : List Token) (h : HasValue ts) → find.as_array h.0 ≡ None
    → as_array (meant_at ts) ≡ None
no_list-says ts h none = ap as_array (meant_at-BeginsWith ts h.0 h.1) ∙ as_array-other h.0 none

pub list-says : (ts : List Token) (h : HasValue ts) (js : json.Items) → h.0 ≡ json.array js
    → as_array (meant_at ts) ≡ Some (items_meant js)
list-says ts h js is = ap as_array (meant_at-BeginsWith ts h.0 h.1 ∙ ap meant is)

prepended : {X : Type 0} (xs : List X) (x : X) (o : Option (List X))
    → option_map (λ ys. xs ++ ys) (option_map (λ ys. x ∷ ys) o) ≡ option_map (λ ys. (xs ++ x ∷ []) ++ ys) o
prepended xs x None = refl
prepended xs x (Some ys) = ap Some (sym (append_assoc xs (x ∷ []) ys))

-- one item more, where it says something
pub each-more : {X : Type 0} (says : Data → Option X) (all : Option (List X)) (xs : List X) (x : X)
    (left rest : json.Items) (j : json.Json) (ts : List Token)
    → all ≡ option_map (λ ys. xs ++ ys) (each says (items_meant left)) → left ≡ json.item j rest
    → BeginsWith ts j → Some x ≡ says (meant_at ts)
    → all ≡ option_map (λ ys. (xs ++ x ∷ []) ++ ys) (each says (items_meant rest))
each-more {X} says all xs x left rest j ts read is begins said =
    let here : says (meant j) ≡ Some x = ap says (sym (meant_at-BeginsWith ts j begins)) ∙ sym said in
    let E : Option X → Option (List X) =
    λ o.
    option_map (λ ys. xs ++ ys)
    (option_and_then (λ y. option_map (λ ys. y ∷ ys) (each says (items_meant rest))) o) in
    read ∙ ap (λ js. option_map (λ ys. xs ++ ys) (each says (items_meant js))) is ∙ ap E here
    ∙ prepended xs x (each says (items_meant rest))

pub each-none : {X : Type 0} (says : Data → Option X) (all : Option (List X)) (xs : List X)
    (left rest : json.Items) (j : json.Json) (ts : List Token)
    → all ≡ option_map (λ ys. xs ++ ys) (each says (items_meant left)) → left ≡ json.item j rest
    → BeginsWith ts j → None ≡ says (meant_at ts) → all ≡ None
each-none {X} says all xs left rest j ts read is begins said =
    let here : says (meant j) ≡ None = ap says (sym (meant_at-BeginsWith ts j begins)) ∙ sym said in
    let E : Option X → Option (List X) =
    λ o.
    option_map (λ ys. xs ++ ys)
    (option_and_then (λ y. option_map (λ ys. y ∷ ys) (each says (items_meant rest))) o) in
    read ∙ ap (λ js. option_map (λ ys. xs ++ ys) (each says (items_meant js))) is ∙ ap E here

pub each-all : {X : Type 0} (says : Data → Option X) (all : Option (List X)) (xs : List X) (left : json.Items)
    → all ≡ option_map (λ ys. xs ++ ys) (each says (items_meant left)) → left ≡ json.no_items → all ≡ Some xs
each-all says all xs left read is =
    read ∙ ap (λ js. option_map (λ ys. xs ++ ys) (each says (items_meant js))) is ∙ ap Some (append-nil xs)

pub each-start : {X : Type 0} (says : Data → Option X) (o : Option Items) (js : json.Items)
    → o ≡ Some (items_meant js)
    → option_and_then (each says) o ≡ option_map (λ ys. [] ++ ys) (each says (items_meant js))
each-start {X} says o js is = ap (option_and_then (each says)) is ∙ same (each says (items_meant js))
  where
    same : (e : Option (List X)) → e ≡ option_map (λ ys. [] ++ ys) e
    same None = refl
    same (Some ys) = refl

pub flags-more : (table : List (List ℕ × ℕ)) (all : Option ℕ) (found bit : ℕ) (left rest : json.Items)
    (j : json.Json) (ts : List Token)
    → all ≡ flags_from table found (items_meant left) → left ≡ json.item j rest → BeginsWith ts j
    → Some bit ≡ flag_of table (meant_at ts)
    → all ≡ flags_from table (bit_or found bit) (items_meant rest)
flags-more table all found bit left rest j ts read is begins said =
    let here : flag_of table (meant j) ≡ Some bit =
    ap (flag_of table) (sym (meant_at-BeginsWith ts j begins)) ∙ sym said in
    read ∙ ap (λ js. flags_from table found (items_meant js)) is
    ∙ ap (option_and_then (λ b. flags_from table (bit_or found b) (items_meant rest))) here

pub flags-none : (table : List (List ℕ × ℕ)) (all : Option ℕ) (found : ℕ) (left rest : json.Items)
    (j : json.Json) (ts : List Token)
    → all ≡ flags_from table found (items_meant left) → left ≡ json.item j rest → BeginsWith ts j
    → None ≡ flag_of table (meant_at ts) → all ≡ None
flags-none table all found left rest j ts read is begins said =
    let here : flag_of table (meant j) ≡ None =
    ap (flag_of table) (sym (meant_at-BeginsWith ts j begins)) ∙ sym said in
    read ∙ ap (λ js. flags_from table found (items_meant js)) is
    ∙ ap (option_and_then (λ b. flags_from table (bit_or found b) (items_meant rest))) here

pub flags-all : (table : List (List ℕ × ℕ)) (all : Option ℕ) (found : ℕ) (left : json.Items)
    → all ≡ flags_from table found (items_meant left) → left ≡ json.no_items → all ≡ Some found
flags-all table all found left read is = read ∙ ap (λ js. flags_from table found (items_meant js)) is

-- ---- a line

pub plain-read : (text : List ℕ) (ts : List Token) → ts ≡ tokens text → IsSome (json.document text)
    → ArePlainTokens ts → is_some (read text) ≡ true
plain-read text ts same some plain = go (json.document text) refl some
  where
    go : (o : Option json.Json) → json.document text ≡ o → IsSome o → is_some (read text) ≡ true
    go None is h = absurd (let no : false ≡ true = h in cc)
    go (Some j) is h =
        let p : ArePlainTokens (tokens text) = subst (λ us. ArePlainTokens us) same plain in
        ap is_some (read-ranged text j is p.0 p.1)

-- a tape of a text that is read
pub read-tape : (text : List ℕ) (ts : List Token) → IsSome (json.document text)
    → ((j : json.Json) → json.document text ≡ Some j → BeginsWith ts j) → is_some (read text) ≡ true
    → read text ≡ Some (meant_at ts)
read-tape text ts some begins readable = go (json.document text) refl some (read text) refl readable
  where
    go : (o : Option json.Json) → json.document text ≡ o → IsSome o → (r : Option Data) → read text ≡ r
        → is_some r ≡ true → read text ≡ Some (meant_at ts)
    go None is h r e readable = absurd (let no : false ≡ true = h in cc)
    go (Some j) is h None e readable = absurd (let no : false ≡ true = readable in cc)
    go (Some j) is h (Some d) e readable =
        read-meant text j d is e ∙ ap Some (sym (meant_at-BeginsWith ts j (begins j is)))

pub value_or_cause-tape : (line text : List ℕ) (ts : List Token) → text ≡ line → IsUtf8 line
    → IsSome (json.document text) → ((j : json.Json) → json.document text ≡ Some j → BeginsWith ts j)
    → is_some (read text) ≡ true → Ok (meant_at ts) ≡ value_or_cause line
value_or_cause-tape line text ts same utf8 some begins readable =
    sym
    (value_or_cause-json line (meant_at ts) utf8
    (ap read (sym same) ∙ read-tape text ts some begins readable))

pub value_or_cause-not_read : (line text : List ℕ) → text ≡ line → json.document text ≡ None
    → ◌≡◌ {A = Result Data ReadCause} (Err NotJson) (value_or_cause line)
value_or_cause-not_read line text same none =
    sym (value_or_cause-none line (λ _. ap read (sym same) ∙ not_read text none))

-- ---- the nodes of a tape, one after another

next_tokens : (ns : List Node) (i : ℕ) (d : Node) → i < length ns
    → map node_token (drop i ns) ≡ node_token (get_or ns i d) ∷ map node_token (drop (i + 1) ns)
next_tokens ns i d within = rw (add-one, drop-cons ns i d) refl

no_tokens : (ns : List Node) (i : ℕ) → length ns ≤ i → map node_token (drop i ns) ≡ []
no_tokens ns i past = ap (map node_token) (drop_of_length-le ns past)

pub ranged-more : (ns : List Node) (i : ℕ) (d : Node) → i < length ns → IsRanged (node_token (get_or ns i d))
    → (AreRanged (map node_token (drop i ns)) → AreRanged (map node_token ns))
    → AreRanged (map node_token (drop (i + 1) ns)) → AreRanged (map node_token ns)
ranged-more ns i d within here all later =
    all (subst (λ ts. AreRanged ts) (sym (next_tokens ns i d within)) (here, later))

pub counted-more : (ns : List Node) (i : ℕ) (d : Node) (count : ℕ) → i < length ns
    → count + opened (map node_token (drop i ns)) ≡ opened (map node_token ns)
    → (count + opening (node_token (get_or ns i d))) + opened (map node_token (drop (i + 1) ns))
    ≡ opened (map node_token ns)
counted-more ns i d count within all = omega (arith, all, ap opened (next_tokens ns i d within))

pub opening-bound : (n : Node) → opening (node_token n) ≤ 1
opening-bound n = opening-one (node_token n)

pub plain-all : (ns : List Node) (i count : ℕ) → length ns ≤ i
    → (AreRanged (map node_token (drop i ns)) → AreRanged (map node_token ns))
    → count + opened (map node_token (drop i ns)) ≡ opened (map node_token ns)
    → count ≤ max_depth → ArePlainTokens (map node_token ns)
plain-all ns i count past ranged counted few = (
  ranged (subst (λ ts. AreRanged ts) (sym (no_tokens ns i past)) tt),
  omega (arith, counted, ap opened (no_tokens ns i past), few),
)
