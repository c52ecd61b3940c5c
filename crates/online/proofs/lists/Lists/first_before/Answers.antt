use Rattle.std.proofs.Common.{◌≡◌, ℕ, Option, Some, None, Bor, map, refl, sym, subst, rules}
use Rattle.std.specs.Cmp.{nat_eq_equiv}
use Rattle.std.specs.Map.Iter.{deref_pair}
use Rattle.std.proofs.lemmas.Bool.{false≢true}
use Rattle.std.proofs.lemmas.List.{map_push}
use Rattle.std.proofs.lemmas.Map.Iter.{hash_map_turn, iter_end}
use Rattle.online.specs.declared.lists.Found.{Found}
use Rattle.online.specs.declared.lists.KeptList.{KeptList}
use Rattle.online.proofs.FirstLemmas.{IsFirstSoFar, first_stays, first_more, first_found, none_found}
use Rattle.online.proofs.lists.Lists.first_before.Goals as goal

pub loop-other-preserved-then-is_before : goal.loop-other-preserved-then-is_before
loop-other-preserved-then-is_before c =
    let lists = c.args.self.now in
    let item : Bor ℕ × Bor KeptList = (c.in-Some.other, c.in-Some.list) in
    let turn =
    hash_map_turn deref_pair c.loop-other.yielded c.into_iter-other-iterator.result
    c.loop-other.other-iterator c.next.new.self c.next.result item c.loop-other.yielded_by c.in-Some.is
    c.next.ensures.steps nat_eq_equiv lists.kept (search rules) (search rules) in
    subst (IsFirstSoFar lists c.args.replay.now c.in_ok-own.own.now (Some c.earlier.result))
    (sym (map_push deref_pair c.loop-other.yielded item))
    (first_more lists c.args.replay.now c.in_ok-own.own.now c.loop-other.first c.earlier.result
    (map deref_pair c.loop-other.yielded) c.in-Some.other.now c.in-Some.list.now turn.1
    (c.if-is_before.ensures.0 refl) c.earlier.ensures c.loop-other.invariant)

pub loop-other-preserved : goal.loop-other-preserved
loop-other-preserved c =
    let lists = c.args.self.now in
    let item : Bor ℕ × Bor KeptList = (c.in-Some.other, c.in-Some.list) in
    subst (IsFirstSoFar lists c.args.replay.now c.in_ok-own.own.now c.loop-other.first)
    (sym (map_push deref_pair c.loop-other.yielded item))
    (first_stays lists c.args.replay.now c.in_ok-own.own.now c.loop-other.first
    (map deref_pair c.loop-other.yielded) (c.in-Some.other.now, c.in-Some.list.now)
    (λ before. false≢true (c.if-is_before.ensures.1 before)) c.loop-other.invariant)

pub returns-in_err-first-clause-none : goal.returns-in_err-first-clause-none
returns-in_err-first-clause-none c = λ absent.
    let lists = c.args.self.now in
    let all : map deref_pair c.loop-other.yielded ≡ lists.kept.entries = search (rules, iter_end) in
    none_found lists c.args.replay.now c.args.task c.in_ok-own.own.now (sym c.in_ok-own.ensures.value)
    (subst (IsFirstSoFar lists c.args.replay.now c.in_ok-own.own.now None) all
    (let P : Option Found → Type 0 =
    λ o. IsFirstSoFar lists c.args.replay.now c.in_ok-own.own.now o (map deref_pair c.loop-other.yielded) in
    subst P c.in_err-first.was c.loop-other.invariant))

pub returns-clause-first : goal.returns-clause-first
returns-clause-first c =
    let lists = c.args.self.now in
    let all : map deref_pair c.loop-other.yielded ≡ lists.kept.entries = search (rules, iter_end) in
    first_found lists c.args.replay.now c.args.task c.in_ok-own.own.now c.in_ok-first.field-0
    (sym c.in_ok-own.ensures.value)
    (subst (IsFirstSoFar lists c.args.replay.now c.in_ok-own.own.now (Some c.in_ok-first.field-0)) all
    (let P : Option Found → Type 0 =
    λ o. IsFirstSoFar lists c.args.replay.now c.in_ok-own.own.now o (map deref_pair c.loop-other.yielded) in
    subst P c.in_ok-first.was c.loop-other.invariant))
