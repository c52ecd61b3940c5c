-- Which roots begin inside another one, of a region that the current task of their thread has not begun.
use Rattle.std.proofs.Common.{◌≡◌, ◌≢◌, ◌∙◌, ℕ, ◌<◌, ◌+◌, ◌*◌, ◌/◌, ◌%◌, ◌^◌, List, [], length, take}
use Rattle.std.proofs.Common.{get_or}
use Rattle.std.proofs.Common.{Option, Some, None, Bool, true, false, refl, sym, ap, subst, arith, rules}
use Rattle.std.proofs.Common.{inl, inr}
use Rattle.std.proofs.Common.{◌⊎◌, bit_or, w64, cond}
use Rattle.std.proofs.lemmas.Bool.{cases_eq, cases_order, eq-eqb, eqb-true, ne_eqb, false≢true}
use Rattle.std.proofs.lemmas.List.{length-set, length-replicate, get_or-replicate, get_or-set_same}
use Rattle.std.proofs.lemmas.List.{get_or-set_other, get_or_default}
use Rattle.std.proofs.lemmas.Nat.Bits.{bit_at-zero, bit_at_set_same, bit_at_set_other}
use Rattle.std.proofs.lemmas.Option.{none-some, same_Some, slice_get_within}
use Rattle.std.proofs.Math.ListN.{set}
use Rattle.std.specs.Int.{bit_at}
use Rattle.std.specs.Option.{option_eq}
use Rattle.std.specs.Prelude.{◌↔◌, All, is_some, nat_eq, slice_get, replicate, IsSomeAnd, IfSome}
use Rattle.std.specs.Prelude.{MatchOption}
use Rattle.indexmap.specs.IndexMap.{IndexMap, get, IsEmpty, Updates, hasher_of as map_hasher}
use Rattle.index_tables.specs.Numbering.{AreApart}
use Rattle.index_tables.specs.declared.seeded.Seeded.{Seeded}
use Rattle.ompt_events.specs.declared.records.Record.{Record}
use Rattle.ompt_events.specs.declared.records.Membership.{Membership}
use Rattle.ompt_events.specs.declared.cause.Cause.TheVariants.{CreatedTwice, RegionNesting}
use Rattle.ompt_events.specs.Records.{forked, joined, begun_initial}
use Rattle.ompt_events.specs.Places.{at, thread_at, nests_at}
use Rattle.ompt_events.specs.Threads.{Walk, walk_of}
use Rattle.ompt_events.specs.Causes.{IsWalkAt, HasBegun, IsMisnested, other_region, other_league, HasCause}
use Rattle.ompt_events.specs.Causes.{region_nesting, forked_twice, IsFreeOf}
use Rattle.ompt_events.specs.Shown.{AreAllBelow, AreAllWith}
use Rattle.ompt_events.proofs.ShownLemmas.{all_with}
use Rattle.ompt_events.proofs.PlaceLemmas.{some_and, and_some, some_of}
use Rattle.task_tree.specs.Runs.{RunView, IsRun, IsFork}
use Rattle.task_tree.proofs.SubjectLemmas.{call_index, call_task}
use Rattle.task_states.specs.declared.begun.Begun.{Begun}
use Rattle.task_states.specs.Misnesting.{HasThread, IsThreadAdded, IsBegunAt, ArePlaces, IsForker}
use Rattle.task_states.specs.Misnesting.{AreForkers}
use Rattle.task_states.specs.Misnesting.{HaveBegun, HasForked, HasForkedOne, JoinsOther, LeadsOther}
use Rattle.task_states.specs.Misnesting.{BeginsMisnested}
use Rattle.task_states.proofs.WalkLemmas.{IsIndexed, thread_there}
use Rattle.task_states.proofs.NestingLemmas.{found_same, walk_here, not_empty, has_first, nests_all}
use Rattle.task_states.proofs.NestingLemmas.{misnested_nests, misnested_within}

-- ---- sets of threads

-- the word of the thread's set with its bit set
pub thread_added : (words : List ℕ) (index thread word : ℕ) → index * 4 + 3 < length words → thread < 256
    → word ≡ get_or words (index * 4 + thread / 64) word
    → IsThreadAdded words
    (set words (index * 4 + thread / 64) (bit_or word (1 * 2 ^ (thread % 64) % 2 ^ 64))) index thread
thread_added words index thread word within low read = record {
  all = length-set words place new;
  each = λ other one below. elim (cases_eq (other * 4 + one / 64) place) [
    | inl same ↦ in_word other one below same
    | inr apart ↦ (
      λ has. inr (ap (λ w. bit_at w (one % 64)) (sym (elsewhere other one apart)) ∙ has),
      λ either. elim either [
        | inl own ↦
            absurd (apart (ap (λ k. k * 4 + one / 64) own.0 ∙ ap (λ t. index * 4 + t / 64) own.1))
        | inr has ↦ ap (λ w. bit_at w (one % 64)) (elsewhere other one apart) ∙ has
      ],
    )
  ];
}
  where
    place : ℕ
    place = index * 4 + thread / 64

    new : ℕ
    new = bit_or word (1 * 2 ^ (thread % 64) % 2 ^ 64)

    inside : place < length words
    inside = omega arith

    small : thread % 64 < 64
    small = omega arith

    was : get_or words place 0 ≡ word
    was = sym (read ∙ get_or_default words place word 0 inside)

    elsewhere : (other one : ℕ) → other * 4 + one / 64 ≢ place
        → get_or (set words place new) (other * 4 + one / 64) 0 ≡ get_or words (other * 4 + one / 64) 0
    elsewhere other one apart = get_or-set_other words place (other * 4 + one / 64) new 0 apart

    here : (other one : ℕ) → other * 4 + one / 64 ≡ place
        → get_or (set words place new) (other * 4 + one / 64) 0 ≡ new
    here other one same =
        ap (λ k. get_or (set words place new) k 0) same ∙ get_or-set_same words place new 0 inside

    kept : (other one : ℕ) → other * 4 + one / 64 ≡ place → one % 64 ≢ thread % 64
        → bit_at new (one % 64) ≡ bit_at (get_or words (other * 4 + one / 64) 0) (one % 64)
    kept other one same apart =
        bit_at_set_other w64 word (thread % 64) small (one % 64) apart
        ∙ ap (λ w. bit_at w (one % 64)) (sym (ap (λ k. get_or words k 0) same ∙ was))

    in_word : (other one : ℕ) → one < 256 → other * 4 + one / 64 ≡ place
        → HasThread (set words place new) other one
        ↔ (((other ≡ index) × (one ≡ thread)) ⊎ HasThread words other one)
    in_word other one below same = elim (cases_eq (one % 64) (thread % 64)) [
      | inl bit ↦
          let own : (other ≡ index) × (one ≡ thread) = (omega arith, omega arith) in (
            λ has. inl own,
            λ either.
                ap (λ w. bit_at w (one % 64)) (here other one same) ∙ ap (bit_at new) bit
                ∙ bit_at_set_same w64 word (thread % 64) small,
          )
      | inr apart ↦ (
        λ has.
            inr
            (sym (kept other one same apart)
            ∙ sym (ap (λ w. bit_at w (one % 64)) (here other one same)) ∙ has),
        λ either. elim either [
          | inl own ↦ absurd (apart (ap (λ t. t % 64) own.1))
          | inr has ↦
              ap (λ w. bit_at w (one % 64)) (here other one same) ∙ kept other one same apart ∙ has
        ],
      )
    ]

-- ---- the table of regions

-- a parallel region begins at one place
pub forked_once : (rs : List Record) (parallel j k own other : ℕ) → IsFreeOf rs CreatedTwice
    → at forked rs j ≡ Some (own, parallel) → at forked rs k ≡ Some (other, parallel) → j ≡ k
forked_once rs parallel j k own other free here there = elim (cases_order j k) [
  | inl same ↦ same
  | inr (inl less) ↦ absurd (free k (forked_twice (parallel, j, other, own, less, here, there)))
  | inr (inr more) ↦ absurd (free j (forked_twice (parallel, k, own, other, more, there, here)))
]

begun_later : (rs : List Record) (n parallel place : ℕ) → IsBegunAt rs n parallel place
    → IsBegunAt rs (n + 1) parallel place
begun_later rs n parallel place is = (let less = is.0 in omega arith, is.1)

begun_sooner : (rs : List Record) (n parallel place : ℕ) → place ≢ n → IsBegunAt rs (n + 1) parallel place
    → IsBegunAt rs n parallel place
begun_sooner rs n parallel place apart is = (let less = is.0 in omega (arith, apart), is.1)

places_none : (rs : List Record) (places : IndexMap ℕ ℕ Seeded) → IsEmpty places → ArePlaces rs 0 places
places_none rs places empty parallel place = (
  λ found. absurd (none-some place (rw empty at found)),
  λ is. absurd (let less = is.0 in omega arith),
)

places_more : (rs : List Record) (n task parallel : ℕ) (old new : IndexMap ℕ ℕ Seeded)
    → IsFreeOf rs CreatedTwice → at forked rs n ≡ Some (task, parallel)
    → Updates nat_eq old new parallel (Some n) → ArePlaces rs n old → ArePlaces rs (n + 1) new
places_more rs n task parallel old new free begins updates are other place =
    elim (cases_eq parallel other) [
      | inl same ↦
          let here : get nat_eq new other ≡ Some n =
          updates.0 other ∙ ap (λ b. cond b (Some n) (get nat_eq old other)) (eq-eqb parallel other same) in
          let begins_other : at forked rs n ≡ Some (task, other) =
          begins ∙ ap (λ (p : ℕ). Some (task, p)) same in (
            λ found.
                let is : n ≡ place = same_Some n place (sym here ∙ found) in
                (omega arith, (task, ap (at forked rs) (sym is) ∙ begins_other)),
            λ is. here ∙ ap Some (forked_once rs other n place task is.1.0 free begins_other is.1.1),
          )
      | inr apart ↦
          let stays : get nat_eq new other ≡ get nat_eq old other =
          updates.0 other
          ∙ ap (λ b. cond b (Some n) (get nat_eq old other)) (ne_eqb parallel other apart) in (
            λ found. begun_later rs n other place ((are other place).0 (sym stays ∙ found)),
            λ is.
                stays
                ∙ (are other place).1
                (begun_sooner rs n other place
                (λ last.
                apart
                (ap (λ (p : ℕ × ℕ). p.1)
                (same_Some (task, parallel) (is.1.0, other)
                (sym begins ∙ ap (at forked rs) (sym last) ∙ is.1.1)))) is),
          )
    ]

places_same : (rs : List Record) (n : ℕ) (places : IndexMap ℕ ℕ Seeded) → at forked rs n ≡ None
    → ArePlaces rs n places → ArePlaces rs (n + 1) places
places_same rs n places none are parallel place = (
  λ found. begun_later rs n parallel place ((are parallel place).0 found),
  λ is.
      (are parallel place).1
      (begun_sooner rs n parallel place
      (λ last. none-some (is.1.0, parallel) (sym none ∙ ap (at forked rs) (sym last) ∙ is.1.1)) is),
)

-- ---- the threads on which a task has begun a region

forker_later : (run : RunView) (n index thread : ℕ) → IsForker run n index thread
    → IsForker run (n + 1) index thread
forker_later run n index thread is = record {
  place = is.place;
  before = let less = is.before in omega arith;
  runs = is.runs;
  task = is.task;
  parallel = is.parallel;
  begins = is.begins;
  indexed = is.indexed;
}

forker_sooner : (run : RunView) (n index thread : ℕ) (is : IsForker run (n + 1) index thread) → is.place ≢ n
    → IsForker run n index thread
forker_sooner run n index thread is apart = record {
  place = is.place;
  before = let less = is.before in omega (arith, apart);
  runs = is.runs;
  task = is.task;
  parallel = is.parallel;
  begins = is.begins;
  indexed = is.indexed;
}

forkers_none : (run : RunView) (words : List ℕ) → words ≡ replicate (length run.family.tasks * 4) 0
    → AreForkers run 0 words
forkers_none run words fresh = record {
  all = ap length fresh ∙ length-replicate (length run.family.tasks * 4) 0;
  each = λ index thread below low.
      let inside : index * 4 + thread / 64 < length run.family.tasks * 4 = omega arith in
      let empty : bit_at (get_or words (index * 4 + thread / 64) 0) (thread % 64) ≡ 0 =
      ap (λ ws. bit_at (get_or ws (index * 4 + thread / 64) 0) (thread % 64)) fresh
      ∙ ap (λ w. bit_at w (thread % 64))
      (get_or-replicate (length run.family.tasks * 4) (index * 4 + thread / 64) 0 0 inside)
      ∙ bit_at-zero (thread % 64) in
      (λ has. absurd (omega (arith, empty, has)), λ is. absurd (let less = is.before in omega arith));
}

forkers_same : (run : RunView) (n : ℕ) (words : List ℕ) → at forked run.records n ≡ None
    → AreForkers run n words → AreForkers run (n + 1) words
forkers_same run n words none are = record {
  all = are.all;
  each = λ index thread below low. (
    λ has. forker_later run n index thread ((are.each index thread below low).0 has),
    λ is.
        (are.each index thread below low).1
        (forker_sooner run n index thread is
        (λ last.
        none-some (is.task, is.parallel) (sym none ∙ ap (at forked run.records) (sym last) ∙ is.begins))),
  );
}

forkers_more : (run : RunView) (n index thread : ℕ) (old new : List ℕ) → AreApart run.family.tasks
    → IsFork run n index → thread_at run.records n ≡ Some thread → IsThreadAdded old new index thread
    → AreForkers run n old → AreForkers run (n + 1) new
forkers_more run n index thread old new apart forks runs added are = record {
  all = added.all ∙ are.all;
  each = λ other one below low. (
    λ has. elim ((added.each other one low).0 has) [
      | inl own ↦ record {
        place = n;
        before = omega arith;
        runs = runs ∙ ap Some (sym own.1);
        task = forks.task;
        parallel = forks.parallel;
        begins = forks.says;
        indexed = ap (slice_get run.family.tasks) own.0 ∙ forks.indexed;
      }
      | inr had ↦ forker_later run n other one ((are.each other one below low).0 had)
    ],
    λ is. (added.each other one low).1 (elim (cases_eq is.place n) [
      | inl last ↦
          let same : forks.task ≡ is.task =
          ap (λ (p : ℕ × ℕ). p.0)
          (same_Some (forks.task, forks.parallel) (is.task, is.parallel)
          (sym forks.says ∙ ap (at forked run.records) (sym last) ∙ is.begins)) in
          inl (
            apart other index is.task is.indexed (forks.indexed ∙ ap Some same),
            same_Some one thread (sym is.runs ∙ ap (thread_at run.records) last ∙ runs),
          )
      | inr earlier ↦
          inr ((are.each other one below low).1 (forker_sooner run n other one is earlier))
    ]),
  );
}

-- ---- both tables

pub begun_none : (run : RunView) (begun : Begun) → IsEmpty begun.places
    → map_hasher begun.places ≡ run.family.region_hashers
    → begun.threads.words.items ≡ replicate (length run.family.tasks * 4) 0 → HaveBegun run 0 begun
begun_none run begun empty seeded fresh = record {
  places = places_none run.records begun.places empty;
  seeded = seeded;
  threads = forkers_none run begun.threads.words.items fresh;
}

-- a record that begins no region changes nothing
pub begun_same : (run : RunView) (n : ℕ) (begun : Begun) → at forked run.records n ≡ None
    → HaveBegun run n begun → HaveBegun run (n + 1) begun
begun_same run n begun none have = record {
  places = places_same run.records n begun.places none have.places;
  seeded = have.seeded;
  threads = forkers_same run n begun.threads.words.items none have.threads;
}

pub begun_more : (run : RunView) (n index thread parallel : ℕ) (old new : Begun) → IsRun run
    → (forks : IsFork run n index) → forks.parallel ≡ parallel → thread_at run.records n ≡ Some thread
    → Updates nat_eq old.places new.places parallel (Some n)
    → map_hasher new.places ≡ map_hasher old.places
    → IsThreadAdded old.threads.words.items new.threads.words.items index thread
    → HaveBegun run n old → HaveBegun run (n + 1) new
begun_more run n index thread parallel old new is forks same runs updates stays added have = record {
  places =
      places_more run.records n forks.task parallel old.places new.places is.family.once
      (forks.says ∙ ap (λ (p : ℕ). Some (forks.task, p)) same) updates have.places;
  seeded = stays ∙ have.seeded;
  threads =
      forkers_more run n index thread old.threads.words.items new.threads.words.items
      is.family.makers.apart forks runs added have.threads;
}

-- ---- what the current task has begun

pub option_same : (a b : Option ℕ) → (option_eq nat_eq a b ≡ true) ↔ (a ≡ b)
option_same None None = (λ is. refl, λ is. refl)
option_same None (Some y) = (λ is. absurd (false≢true is), λ is. absurd (none-some y is))
option_same (Some x) None = (λ is. absurd (false≢true is), λ is. absurd (none-some x (sym is)))
option_same (Some x) (Some y) = (λ is. ap Some (eqb-true x y is), λ is. eq-eqb x y (same_Some x y is))

-- the place that the table has is the only one at which the region begins
begun_place : (run : RunView) (i place index parallel : ℕ) (places : IndexMap ℕ ℕ Seeded) → IsRun run
    → ArePlaces run.records i places → get nat_eq places parallel ≡ Some place
    → (h : HasForked run i index parallel) → place ≡ h.place
begun_place run i place index parallel places is are found h =
    let begun = (are parallel place).0 found in
    forked_once run.records parallel place h.place begun.1.0 h.task is.family.once begun.1.1 h.begins

-- so it is on the thread that has begun the region
pub begun_thread : (run : RunView) (i place thread other parallel : ℕ) (places : IndexMap ℕ ℕ Seeded)
    (task : Option ℕ)
    → IsRun run → ArePlaces run.records i places → get nat_eq places parallel ≡ Some place
    → thread_at run.records place ≡ Some other → thread_at run.records i ≡ Some thread
    → IsSomeAnd task (λ index. HasForked run i index parallel) → other ≡ thread
begun_thread run i place thread other parallel places task is are found runs_there runs has =
    let (index, is_task, h) = some_and task (λ x. HasForked run i x parallel) has in
    same_Some other thread
    (sym runs_there
    ∙ ap (thread_at run.records) (begun_place run i place index parallel places is are found h)
    ∙ h.same_thread ∙ runs)

-- and the task has begun the region exactly if it did there
pub begun_there : (run : RunView) (i place thread parallel : ℕ) (places : IndexMap ℕ ℕ Seeded)
    (slot task : Option ℕ)
    → IsRun run → ArePlaces run.records i places → get nat_eq places parallel ≡ Some place
    → thread_at run.records place ≡ Some thread → thread_at run.records i ≡ Some thread
    → MatchOption slot (at forked run.records place ≡ None) (IsFork run place)
    → (slot ≡ task) ↔ IsSomeAnd task (λ index. HasForked run i index parallel)
begun_there run i place thread parallel places slot task is are found runs_there runs forks =
    (to slot forks, from slot forks)
  where
    begun : IsBegunAt run.records i parallel place
    begun = (are parallel place).0 found

    to : (slot : Option ℕ) → MatchOption slot (at forked run.records place ≡ None) (IsFork run place)
        → slot ≡ task → IsSomeAnd task (λ index. HasForked run i index parallel)
    to None none same = absurd (none-some (begun.1.0, parallel) (sym none ∙ begun.1.1))
    to (Some index) fork same =
        let region : fork.parallel ≡ parallel =
        ap (λ (p : ℕ × ℕ). p.1)
        (same_Some (fork.task, fork.parallel) (begun.1.0, parallel) (sym fork.says ∙ begun.1.1)) in
        and_some task (λ x. HasForked run i x parallel) index (sym same) (record {
          place = place;
          before = begun.0;
          same_thread = runs_there ∙ sym runs;
          task = fork.task;
          begins = fork.says ∙ ap (λ (p : ℕ). Some (fork.task, p)) region;
          indexed = fork.indexed;
        })

    from : (slot : Option ℕ) → MatchOption slot (at forked run.records place ≡ None) (IsFork run place)
        → IsSomeAnd task (λ index. HasForked run i index parallel) → slot ≡ task
    from None none has = absurd (none-some (begun.1.0, parallel) (sym none ∙ begun.1.1))
    from (Some own) fork has =
        let (index, is_task, h) = some_and task (λ x. HasForked run i x parallel) has in
        let same : fork.task ≡ h.task =
        ap (λ (p : ℕ × ℕ). p.0)
        (same_Some (fork.task, fork.parallel) (h.task, parallel)
        (sym fork.says
        ∙ ap (at forked run.records) (begun_place run i place index parallel places is are found h)
        ∙ h.begins)) in
        ap Some (is.family.makers.apart own index h.task (fork.indexed ∙ ap Some same) h.indexed)
        ∙ sym is_task

-- the place is of an earlier record
pub place_within : (rs : List Record) (i parallel place : ℕ) (places : IndexMap ℕ ℕ Seeded)
    → ArePlaces rs i places → get nat_eq places parallel ≡ Some place → i < length rs → place < length rs
place_within rs i parallel place places are found within =
    let before = ((are parallel place).0 found).0 in omega (arith, before, within)

-- a region that the table does not have is begun by no task
pub not_begun : (run : RunView) (i parallel : ℕ) (places : IndexMap ℕ ℕ Seeded) (task : Option ℕ)
    → ArePlaces run.records i places → get nat_eq places parallel ≡ None
    → IsSomeAnd task (λ index. HasForked run i index parallel) → ⊥
not_begun run i parallel places task are missing has =
    let (index, is_task, h) = some_and task (λ x. HasForked run i x parallel) has in
    none-some h.place (sym missing ∙ (are parallel h.place).1 (h.before, (h.task, h.begins)))

pub forked_one : (run : RunView) (i index thread : ℕ) (words : List ℕ) → AreForkers run i words
    → index < length run.family.tasks → thread < 256 → thread_at run.records i ≡ Some thread
    → HasThread words index thread ↔ HasForkedOne run i index
forked_one run i index thread words are below low runs = (
  λ has.
      let is = (are.each index thread below low).0 has in (
        is.parallel,
        record {
          place = is.place;
          before = is.before;
          same_thread = is.runs ∙ sym runs;
          task = is.task;
          begins = is.begins;
          indexed = is.indexed;
        },
      ),
  λ one.
      let h = one.1 in
      (are.each index thread below low).1 (record {
        place = h.place;
        before = h.before;
        runs = h.same_thread ∙ runs;
        task = h.task;
        parallel = one.0;
        begins = h.begins;
        indexed = h.indexed;
      }),
)

-- ---- a record where its thread stands

-- the task that runs is one of the run
pub current_known : (tasks : List ℕ) (walk w : Walk) → IsIndexed tasks walk w
    → IfSome walk.current (λ index. index < length tasks)
current_known tasks walk w is = of walk.current refl
  where
    of : (o : Option ℕ) → walk.current ≡ o → IfSome o (λ index. index < length tasks)
    of None e = search rules
    of (Some index) e =
        let (task, says, stands) = call_task tasks w.current walk.current index is.current e in
        slice_get_within tasks index task stands

-- the current task has begun the region, by indices and by ids
to_begun : (run : RunView) (i parallel : ℕ) (walk w : Walk) → IsIndexed run.family.tasks walk w
    → IsSomeAnd walk.current (λ index. HasForked run i index parallel) → HasBegun run.records i w parallel
to_begun run i parallel walk w is has =
    let (index, current, h) = some_and walk.current (λ x. HasForked run i x parallel) has in
    let (task, named, stands) =
    call_task run.family.tasks w.current walk.current index is.current current in (
      h.place,
      task,
      h.before,
      h.same_thread,
      named,
      h.begins
          ∙ ap (λ (t : ℕ). Some (t, parallel)) (same_Some h.task task (sym h.indexed ∙ stands)),
    )

from_begun : (run : RunView) (i parallel : ℕ) (walk w : Walk) → IsIndexed run.family.tasks walk w
    → HasBegun run.records i w parallel → IsSomeAnd walk.current (λ index. HasForked run i index parallel)
from_begun run i parallel walk w is (k, task, before, same_thread, named, begins) =
    let (index, current, stands) = call_index run.family.tasks w.current walk.current task is.current named in
    and_some walk.current (λ x. HasForked run i x parallel) index current (record {
      place = k;
      before = before;
      same_thread = same_thread;
      task = task;
      begins = begins;
      indexed = stands;
    })

to_begun_one : (run : RunView) (i : ℕ) (walk w : Walk) → IsIndexed run.family.tasks walk w
    → IsSomeAnd walk.current (HasForkedOne run i) → (parallel : ℕ) × HasBegun run.records i w parallel
to_begun_one run i walk w is has =
    let (index, current, one) = some_and walk.current (HasForkedOne run i) has in (
      one.0,
      to_begun run i one.0 walk w is
          (and_some walk.current (λ x. HasForked run i x one.0) index current one.1),
    )

from_begun_one : (run : RunView) (i parallel : ℕ) (walk w : Walk) → IsIndexed run.family.tasks walk w
    → HasBegun run.records i w parallel → IsSomeAnd walk.current (HasForkedOne run i)
from_begun_one run i parallel walk w is has =
    let (index, current, h) =
    some_and walk.current (λ x. HasForked run i x parallel) (from_begun run i parallel walk w is has) in
    and_some walk.current (HasForkedOne run i) index current (parallel, h)

pub begins_misnested : (run : RunView) (i thread : ℕ) (walk : Walk) → nests_at run.records i ≡ true
    → i < length run.records → thread_at run.records i ≡ Some thread
    → IsIndexed run.family.tasks walk (walk_of thread (take i run.records))
    → BeginsMisnested run walk i → IsMisnested run.records i
begins_misnested run i thread walk nests within runs is (opened, either) = cases either
  where
    w : Walk
    w = walk_of thread (take i run.records)

    inside : is_some (slice_get w.roots 0) ≡ true
    inside =
        sym (found_same run.family.tasks (slice_get w.roots 0) (slice_get walk.roots 0) (is.roots 0)) ∙ opened

    cases : JoinsOther run walk i ⊎ LeadsOther run walk i → IsMisnested run.records i
    cases (inl joins) =
        let (m, says, other) =
        some_and (at joined run.records i)
        (λ (x : Membership). IsSomeAnd walk.current (λ index. HasForked run i index x.parallel) → ⊥) joins in
        other_region m w nests says (walk_here run i thread within runs) (not_empty w.roots inside)
        (λ begun. other (from_begun run i m.parallel walk w is begun))
    cases (inr (begins, other)) =
        let task = some_of (at begun_initial run.records i) begins in
        other_league task.0 w nests task.1 (walk_here run i thread within runs) (not_empty w.roots inside)
        (λ parallel begun. other (from_begun_one run i parallel walk w is begun))

-- and back
pub misnested_begins : (run : RunView) (i thread : ℕ) (walk : Walk) → thread_at run.records i ≡ Some thread
    → IsIndexed run.family.tasks walk (walk_of thread (take i run.records))
    → IsMisnested run.records i → BeginsMisnested run walk i
misnested_begins run i thread walk runs is misnested = cases misnested
  where
    w : Walk
    w = walk_of thread (take i run.records)

    is_here : (other : Walk) → IsWalkAt run.records i other → other ≡ w
    is_here other (r, stands, same) =
        same ∙ ap (λ t. walk_of t (take i run.records)) (thread_there run i thread r stands runs)

    opened : (other : Walk) → other ≡ w → other.roots ≢ [] → is_some (slice_get walk.roots 0) ≡ true
    opened other same full =
        let P : Walk → Type 0 = λ v. is_some (slice_get v.roots 0) ≡ true in
        found_same run.family.tasks (slice_get w.roots 0) (slice_get walk.roots 0) (is.roots 0)
        ∙ subst P same (has_first other.roots full)

    cases : IsMisnested run.records i → BeginsMisnested run walk i
    cases (other_region m other nests joins stands full none) =
        let same = is_here other stands in
        let P : Walk → Type 0 = λ v. HasBegun run.records i v m.parallel in (
          opened other same full,
          inl
              (and_some (at joined run.records i)
              (λ (x : Membership).
              IsSomeAnd walk.current (λ index. HasForked run i index x.parallel) → ⊥) m joins
              (λ has. none (subst P (sym same) (to_begun run i m.parallel walk w is has)))),
        )
    cases (other_league task other nests begins stands full none) =
        let same = is_here other stands in (
          opened other same full,
          inr (
            ap is_some begins,
            λ has.
                let (parallel, begun) = to_begun_one run i walk w is has in
                let P : Walk → Type 0 = λ v. HasBegun run.records i v parallel in
                none parallel (subst P (sym same) begun),
          ),
        )

-- ---- the search

-- regions may lie inside others there, as they may everywhere
pub nest_at : (rs : List Record) (i : ℕ) (nests : Bool) → All (λ (r : Record). r.nests ≡ nests) rs
    → nests ≡ true → i < length rs → nests_at rs i ≡ true
nest_at rs i nests all is within = nests_all rs nests i all within ∙ is

is_misnested : (rs : List Record) (i : ℕ) → HasCause rs i RegionNesting → IsMisnested rs i
is_misnested rs i (region_nesting h) = h

-- the places that were found up to the end are all
pub all_misnested : (rs : List Record) (n : ℕ) (places : List ℕ) → length rs ≡ n
    → AreAllBelow (IsMisnested rs) n places → AreAllWith rs RegionNesting places
all_misnested rs n places all are =
    all_with rs RegionNesting (IsMisnested rs) n places all (λ i here. region_nesting here)
    (λ i has.
    let here = is_misnested rs i has in
    let inside = misnested_within rs i here in (omega (arith, inside, all), here))
    are

pub free_where_none_nest : (rs : List Record) → All (λ (r : Record). r.nests ≡ false) rs
    → IsFreeOf rs RegionNesting
free_where_none_nest rs all i has =
    let here = is_misnested rs i has in
    false≢true
    (sym (nests_all rs false i all (misnested_within rs i here)) ∙ misnested_nests rs i here)
