-- The bytes that were looked at stay in front of the others.
use Rattle.std.proofs.Common.{◌≡◌, ◌∙◌, ℕ, ◌+◌, ◌-◌, ◌<◌, ◌≤◌, List, [], ◌++◌, length, take, drop, min, arith}
use Rattle.std.proofs.Common.{sym, ap, refl, Option, None, Some, Result, length-take, length-drop}
use Rattle.std.proofs.Common.{append_assoc, ap₂, length-append}
use Rattle.std.proofs.Math.ListN.{drop_of_length-le}
use Rattle.std.proofs.Math.Seq.{take-add, take-append_seam}
use Rattle.std.proofs.lemmas.Slice.{take-put_mid_below}
use borrow.Rule.Slice.PartMut.{put_mid, post_of}
use Rattle.std.proofs.lemmas.List.{take-append-drop, drop-drop, drop-take, drop_at, take_all}
use Rattle.std.proofs.lemmas.List.{take-append-le}
use Rattle.std.specs.Prelude.{IfSome}
use Rattle.std.specs.Io.KnownBytes.{Consumes, Keeps, ReadConsumes, prepend_known}

pub keeps_itself : (a : Option (List ℕ)) → Keeps a a
keeps_itself None = tt
keeps_itself (Some xs) = refl

pub keeps_both : (a b c : Option (List ℕ)) → Keeps a b → Keeps b c → Keeps a c
keeps_both None b c ab bc = tt
keeps_both (Some xs) None c ab bc = absurd ab
keeps_both (Some xs) (Some ys) None ab bc = absurd bc
keeps_both (Some xs) (Some ys) (Some zs) ab bc = bc ∙ ab

pub keeps_consumes : (a b c : Option (List ℕ)) (given : List ℕ) → Keeps a b → Consumes b c given
    → Consumes a c given
keeps_consumes None b c given ab bc = tt
keeps_consumes (Some xs) None c given ab bc = absurd ab
keeps_consumes (Some xs) (Some ys) None given ab bc = absurd bc
keeps_consumes (Some xs) (Some ys) (Some zs) given ab bc = sym ab ∙ bc

-- nothing in front
pub prepend_none : (a : Option (List ℕ)) → prepend_known [] a ≡ a
prepend_none None = refl
prepend_none (Some xs) = refl

pub keeps_behind_none : (a : Option (List ℕ)) → Keeps a (prepend_known [] a)
keeps_behind_none None = tt
keeps_behind_none (Some xs) = refl

-- the part of the first bytes from a place on
pub held_is : (first : List ℕ) (at end : ℕ) → at ≤ end
    → drop at (take end first) ≡ take (end - at) (drop at first)
held_is first at end le =
    let whole : end ≡ at + (end - at) = omega arith in
    ap (λ k. drop at (take k first)) whole ∙ drop-take at (end - at) first

-- what is copied to the front of a buffer, and the rest
split_held : (held copied rest : List ℕ) (n m : ℕ) → copied ≡ take n held → n ≡ min (length held) m
    → held ≡ take n (copied ++ rest) ++ drop n held
split_held held copied rest n m copy least =
    let len : length copied ≡ n = ap length copy ∙ omega (arith, length-take n held) in
    let front : take n (copied ++ rest) ≡ take n held =
    ap (λ k. take k (copied ++ rest)) (sym len) ∙ take-append_seam copied rest ∙ copy in
    rw front (sym (take-append-drop n held))

consumed : (known : Option (List ℕ)) (held given left : List ℕ) → held ≡ given ++ left
    → Consumes (prepend_known held known) (prepend_known left known) given
consumed None held given left split = tt
consumed (Some ys) held given left split = ap (λ t. t ++ ys) split ∙ append_assoc given left ys

pub held_given : (known : Option (List ℕ)) (first copied rest : List ℕ) (at end n m : ℕ) → at ≤ end
    → copied ≡ take n (take (end - at) (drop at first))
    → n ≡ min (length (take (end - at) (drop at first))) m
    → Consumes (prepend_known (drop at (take end first)) known)
    (prepend_known (drop (at + n) (take end first)) known) (take n (copied ++ rest))
held_given known first copied rest at end n m le copy least =
    let held = drop at (take end first) in
    let is : take (end - at) (drop at first) ≡ held = sym (held_is first at end le) in
    let split : held ≡ take n (copied ++ rest) ++ drop n held =
    split_held held copied rest n m (copy ∙ ap (take n) is) (least ∙ ap (λ t. min (length t) m) is) in
    consumed known held _ _
    (split ∙ ap (λ t. take n (copied ++ rest) ++ t) (drop-drop n at (take end first)))

-- none of the first bytes is left
pub rest_given : {E : Type 0} (known known' : Option (List ℕ)) (held : List ℕ) (r : Result ℕ E)
    (buffer : List ℕ)
    → held ≡ [] → ReadConsumes known known' r buffer
    → ReadConsumes (prepend_known held known) (prepend_known held known') r buffer
rest_given known known' held r buffer none read =
    rw (none, prepend_none known, prepend_none known') read

pub none_held : (first : List ℕ) (at end : ℕ) → end ≤ at → drop at (take end first) ≡ []
none_held first at end le =
    drop_of_length-le (take end first) (omega (arith, length-take end first))

-- some more bytes behind those that were looked at
pub more_given : (all known known' : Option (List ℕ)) (first given : List ℕ)
    → Keeps all (prepend_known first known) → Consumes known known' given
    → Keeps all (prepend_known (first ++ given) known')
more_given None known known' first given kept h = tt
more_given (Some all) None known' first given kept h = absurd kept
more_given (Some all) (Some xs) None first given kept h = absurd h
more_given (Some all) (Some xs) (Some ys) first given kept h =
    append_assoc first given ys ∙ ap (λ t. first ++ t) (sym h) ∙ kept

-- six bytes are the first six
pub six_looked_at : (all known : Option (List ℕ)) (first : List ℕ) → length first ≡ 6
    → Keeps all (prepend_known first known) → IfSome all (λ bytes. take 6 bytes ≡ first)
six_looked_at None known first six kept = tt
six_looked_at (Some all) None first six kept = absurd kept
six_looked_at (Some all) (Some rest) first six kept =
    ap (take 6) (sym kept) ∙ take-append-le 6 first rest (omega arith)
    ∙ take_all 6 first (omega arith)

-- what was read behind the first bytes is theirs
pub take_more : (first buffer : List ℕ) (e k n : ℕ) → e ≤ length first → n ≤ length buffer
    → take (e + n) (put_mid e k first buffer) ≡ take e first ++ take n buffer
take_more first buffer e k n within enough =
    let size : length (take e first) ≡ e = omega (arith, length-take e first) in
    let behind : drop e (put_mid e k first buffer) ≡ buffer ++ post_of e k first =
    drop_at (take e first) (buffer ++ post_of e k first) e size in
    take-add e n (put_mid e k first buffer)
    ∙ ap₂ (λ (x y : List ℕ). x ++ take n y)
    (take-put_mid_below e k first buffer e (omega arith) within) behind
    ∙ ap (λ t. take e first ++ t) (take-append-le n buffer (post_of e k first) enough)

pub length_more : (first buffer : List ℕ) (e : ℕ) → e ≤ 6 → length first ≡ 6 → length buffer ≡ 6 - e
    → length (put_mid e (6 - e) first buffer) ≡ 6
length_more first buffer e within six rest =
    omega (
      arith,
      length-append (take e first) (buffer ++ post_of e (6 - e) first),
      length-append buffer (post_of e (6 - e) first),
      length-take e first,
      length-drop (6 - e) (drop e first),
      length-drop e first,
    )

-- some are given where there are some, and there is room
pub some_given : (first copied rest : List ℕ) (at end n m : ℕ) → at < end → end ≤ length first
    → copied ≡ take n (take (end - at) (drop at first))
    → n ≡ min (length (take (end - at) (drop at first))) m → length copied + length rest ≡ m
    → n ≡ 0 → 0 < length (copied ++ rest) → ⊥
some_given first copied rest at end n m below within copy least whole none some =
    omega (
      arith,
      length-append copied rest,
      length-take (end - at) (drop at first),
      length-drop at first,
      least,
    )
