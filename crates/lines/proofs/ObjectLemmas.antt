-- Objects whose members were put one after another: their members are in order, and plain where each is.
use Rattle.std.proofs.Common.{◌≡◌, ℕ, suc, ◌+◌, ◌≤◌, true, List, [], ◌∷◌, length, Ordering, Less, Equal}
use Rattle.std.proofs.Common.{Greater, arith, refl, sym, ap, ◌∙◌}
use Rattle.std.specs.Prelude.{⊤}
use Rattle.std.specs.Ordering.{nat_cmp, match_ordering, ordering_reverse}
use Rattle.std.specs.Cmp.Lexicographic.{slice_cmp}
use Rattle.std.specs.List.{AllByRecursion}
use Rattle.std.proofs.lemmas.Cmp.{nat_list_cmp_total}
use Rattle.serde_json.specs.Data.{Data, Members, no_members, member, put}
use Rattle.lines.specs.Texts.{with_member, with_members, object_of}
use Rattle.lines.proofs.JsonLemmas.{is_plain_text, puts, IsPlain, MembersArePlain, size, members_size}

-- ---- the order of the names

abbrev IsBelowEach : List ℕ → Members → Type 0
IsBelowEach k no_members = ⊤
IsBelowEach k (member l e ms) = (slice_cmp nat_cmp k l ≡ Less) × IsBelowEach k ms

-- each name is below those after it
abbrev pub AreNamesRising : Members → Type 0
AreNamesRising no_members = ⊤
AreNamesRising (member k d ms) = IsBelowEach k ms × AreNamesRising ms

IsBelowEach-less : (k l : List ℕ) (ms : Members) → slice_cmp nat_cmp k l ≡ Less → IsBelowEach l ms
    → IsBelowEach k ms
IsBelowEach-less k l no_members less below = tt
IsBelowEach-less k l (member j e ms) less below =
    (nat_list_cmp_total.trans k l j less below.0, IsBelowEach-less k l ms less below.1)

IsBelowEach-put : (l k : List ℕ) (d : Data) (ms : Members) → slice_cmp nat_cmp l k ≡ Less → IsBelowEach l ms
    → IsBelowEach l (put k d ms)
IsBelowEach-put l k d no_members less below = (less, tt)
IsBelowEach-put l k d (member j e ms) less below =
    by_order below.0 below.1 less (IsBelowEach-put l k d ms less below.1) (slice_cmp nat_cmp k j)
  where
    by_order : slice_cmp nat_cmp l j ≡ Less → IsBelowEach l ms → slice_cmp nat_cmp l k ≡ Less
        → IsBelowEach l (put k d ms) → (o : Ordering)
        → IsBelowEach l
        (match_ordering o (member k d (member j e ms)) (member j d ms) (member j e (put k d ms)))
    by_order first rest here more Less = (here, (first, rest))
    by_order first rest here more Equal = (first, rest)
    by_order first rest here more Greater = (first, more)

AreNamesRising-put : (k : List ℕ) (d : Data) (ms : Members) → AreNamesRising ms → AreNamesRising (put k d ms)
AreNamesRising-put k d no_members rising = (tt, tt)
AreNamesRising-put k d (member l e ms) rising =
    by_order rising.0 rising.1 (AreNamesRising-put k d ms rising.1) (slice_cmp nat_cmp k l) refl
  where
    by_order : IsBelowEach l ms → AreNamesRising ms → AreNamesRising (put k d ms) → (o : Ordering)
        → slice_cmp nat_cmp k l ≡ o
        → AreNamesRising
        (match_ordering o (member k d (member l e ms)) (member l d ms) (member l e (put k d ms)))
    by_order below rest more Less is = ((is, IsBelowEach-less k l ms is below), (below, rest))
    by_order below rest more Equal is = (below, rest)
    by_order below rest more Greater is =
        (IsBelowEach-put l k d ms (nat_list_cmp_total.antisymm l k ∙ ap ordering_reverse is) below, more)

-- these members, and then those
abbrev pub followed : Members → Members → Members
followed no_members more = more
followed (member k d ms) more = member k d (followed ms more)

pub followed-none : (ms : Members) → followed ms no_members ≡ ms
followed-none no_members = refl
followed-none (member k d ms) = ap (member k d) (followed-none ms)

pub followed-more : (ms : Members) (k : List ℕ) (d : Data) (more : Members)
    → followed (followed ms (member k d no_members)) more ≡ followed ms (member k d more)
followed-more no_members k d more = refl
followed-more (member l e ms) k d more = ap (member l e) (followed-more ms k d more)

below_middle : (first : List ℕ) (ms : Members) (k : List ℕ) (d : Data) (more : Members)
    → IsBelowEach first (followed ms (member k d more)) → slice_cmp nat_cmp first k ≡ Less
below_middle first no_members k d more below = below.0
below_middle first (member l e ms) k d more below = below_middle first ms k d more below.1

put_last : (done : Members) (k : List ℕ) (d : Data) (more : Members)
    → AreNamesRising (followed done (member k d more)) → put k d done ≡ followed done (member k d no_members)
put_last no_members k d more rising = refl
put_last (member first e done) k d more rising =
    let above : slice_cmp nat_cmp k first ≡ Greater =
    nat_list_cmp_total.antisymm k first
    ∙ ap ordering_reverse (below_middle first done k d more rising.0) in
    rw above (ap (member first e) (put_last done k d more rising.1))

puts-followed : (ms done : Members) → AreNamesRising (followed done ms) → puts ms done ≡ followed done ms
puts-followed no_members done rising = sym (followed-none done)
puts-followed (member k d ms) done rising =
    ap (puts ms) (put_last done k d ms rising)
    ∙ puts-followed ms (followed done (member k d no_members)) (rw (followed-more done k d ms) rising)
    ∙ followed-more done k d ms

pub puts-IsRising : (ms : Members) → AreNamesRising ms → puts ms no_members ≡ ms
puts-IsRising ms rising = puts-followed ms no_members rising

-- ---- what one more member does

MembersArePlain-put : (k : List ℕ) (d : Data) (ms : Members) (n : ℕ) → is_plain_text k ≡ true → IsPlain d n
    → MembersArePlain ms n → MembersArePlain (put k d ms) n
MembersArePlain-put k d no_members n name plain all = (name, plain, tt)
MembersArePlain-put k d (member l e ms) n name plain all =
    by_order name plain all.0 all.1 all.2 (MembersArePlain-put k d ms n name plain all.2)
    (slice_cmp nat_cmp k l)
  where
    by_order : is_plain_text k ≡ true → IsPlain d n → is_plain_text l ≡ true → IsPlain e n
        → MembersArePlain ms n → MembersArePlain (put k d ms) n → (o : Ordering)
        → MembersArePlain
        (match_ordering o (member k d (member l e ms)) (member l d ms) (member l e (put k d ms))) n
    by_order name plain first old rest more Less = (name, plain, (first, old, rest))
    by_order name plain first old rest more Equal = (first, plain, rest)
    by_order name plain first old rest more Greater = (first, old, more)

members_size-put : (k : List ℕ) (d : Data) (ms : Members)
    → members_size (put k d ms) ≤ length k + 4 + size d + members_size ms
members_size-put k d no_members = omega arith
members_size-put k d (member l e ms) = by_order (members_size-put k d ms) (slice_cmp nat_cmp k l)
  where
    by_order : members_size (put k d ms) ≤ length k + 4 + size d + members_size ms → (o : Ordering)
        → members_size
        (match_ordering o (member k d (member l e ms)) (member l d ms) (member l e (put k d ms)))
        ≤ length k + 4 + size d + (length l + 4 + size e + members_size ms)
    by_order more Less = omega arith
    by_order more Equal = omega arith
    by_order more Greater = omega arith

-- ---- the same of each member that was put

-- the member's name and its value are plain, and the value nests at most n deep
abbrev pub IsPlainMember : ℕ → List ℕ × Data → Type 0
IsPlainMember n m = (is_plain_text m.0 ≡ true) × IsPlain m.1 n

-- enough for the members' text
abbrev pub added_size : List (List ℕ × Data) → ℕ
added_size [] = 0
added_size (m ∷ more) = length m.0 + 4 + size m.1 + added_size more

with_members-plain : (added : List (List ℕ × Data)) (ms : Members) (n : ℕ)
    → AllByRecursion (IsPlainMember n) added → AreNamesRising ms → MembersArePlain ms n
    → AreNamesRising (with_members added ms) × MembersArePlain (with_members added ms) n
unfolding with_member
with_members-plain [] ms n each rising all = (rising, all)
with_members-plain (m ∷ added) ms n each rising all =
    with_members-plain added (put m.0 m.1 ms) n each.1 (AreNamesRising-put m.0 m.1 ms rising)
    (MembersArePlain-put m.0 m.1 ms n each.0.0 each.0.1 all)

pub IsPlain-object_of : (added : List (List ℕ × Data)) (n : ℕ) → AllByRecursion (IsPlainMember n) added
    → IsPlain (object_of added) (suc n)
IsPlain-object_of added n each =
    let both = with_members-plain added no_members n each tt tt in (puts-IsRising _ both.0, both.1)

with_members-size : (added : List (List ℕ × Data)) (ms : Members)
    → members_size (with_members added ms) ≤ added_size added + members_size ms
unfolding with_member
with_members-size [] ms = omega arith
with_members-size (m ∷ added) ms =
    omega (arith, with_members-size added (put m.0 m.1 ms), members_size-put m.0 m.1 ms)

pub size-object_of : (added : List (List ℕ × Data)) → size (object_of added) ≤ added_size added + 2
size-object_of added = omega (arith, with_members-size added no_members)
