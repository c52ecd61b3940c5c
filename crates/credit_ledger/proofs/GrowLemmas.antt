-- What a tree keeps when a node is added.
use Rattle.std.proofs.Common.{◌≡◌, ◌≢◌, ℕ, zero, suc, ◌+◌, ◌^◌, ◌<◌, ◌≤◌, true, false, List, [], ◌∷◌, ◌++◌}
use Rattle.std.proofs.Common.{length, set, get_or, refl, sym, ◌∙◌, ap, subst, arith, length-append, ⊎_elim}
use Rattle.std.proofs.Common.{inl, inr, ◌⊎◌}
use Rattle.std.specs.Prelude.{Option, Some, None, ◌==◌, max, unwrap_or, slice_get}
use Rattle.std.specs.Option.{option_and_then}
use Rattle.std.proofs.lemmas.Bool.{cases_Bool, cases_eq, cases_lt, and_parts, eqb-true}
use Rattle.std.proofs.lemmas.Option.{unwrap_or-slice_get}
use Rattle.std.proofs.lemmas.List.{length-set, get_or-set_same, get_or-set_other, get_or_append_left}
use Rattle.std.proofs.lemmas.List.{get_or_push, get_or_past}
use Rattle.credit_ledger.specs.declared.links.Side.{Side}
use Rattle.credit_ledger.specs.declared.links.Side.TheVariants.{First}
use Rattle.credit_ledger.specs.declared.links.Spot.TheVariants.{Missing}
use Rattle.credit_ledger.specs.declared.links.Link.{Link}
use Rattle.credit_ledger.specs.Links.{leaf_link, link_at, link_behind, with_link, is_link_of, spot_within}
use Rattle.credit_ledger.specs.Links.{spot_of}
use Rattle.credit_ledger.specs.Links.{found}
use Rattle.credit_ledger.specs.Links.{AreLinksRising}
use Rattle.credit_ledger.proofs.LinkLemmas.{step-missing, link_at-past, IsLinkAdded, IsLinkAdded-set}
use Rattle.credit_ledger.proofs.LinkLemmas.{AreLinksRising-added}
use Rattle.credit_ledger.proofs.LinkLemmas.{added-here, added-elsewhere, missing-at}
use Rattle.credit_ledger.specs.declared.tree.Node.{Node}
use Rattle.credit_ledger.specs.declared.tree.Tree.{Tree}
use Rattle.credit_ledger.specs.Trees.{no_progress, empty_node, node_at, child, place, progress_at, with_reach}
use Rattle.credit_ledger.specs.Trees.{IsTreeLinked, IsGrown}
use Rattle.credit_ledger.proofs.KnownLemmas.{none_some, same_some}
use Rattle.credit_ledger.proofs.TreeLemmas.{place-child, progress_at-place, progress_at-none}

-- one child more
pub record IsChildAdded (old new : Tree) (index number k : ℕ) : Type 0 where
  pub here : child new index number ≡ Some k
  pub others : (i n : ℕ) → (child new i n ≡ child old i n) ⊎ ((i ≡ index) × (n ≡ number))

-- a search that begins at no child
search-none : (links : List Link) (steps i n : ℕ) → link_behind (link_at links i) First ≡ 0
    → spot_within links steps i n n i First ≡ Missing i First
search-none links zero i n none = refl
search-none links (suc steps) i n none = step-missing links steps i n n i First none

pub IsChildAdded-from : (old new : Tree) (index number j : ℕ) (s : Side) → IsTreeLinked old
    → index < length old.nodes.items → spot_of old.links.items index number ≡ Missing j s
    → IsLinkAdded old.links.items new.links.items index number j s
    → IsChildAdded old new index number (length old.nodes.items)
IsChildAdded-from old new index number j s linked inside missing added = record {
  here = ap (λ (steps : ℕ). found (spot_within new.links.items steps index number number index First)) longer
      ∙ ap found
      (added-here old.links.items new.links.items index number j s linked.rising added
      (length old.links.items) number index First inside_links (omega arith) missing)
      ∙ ap (λ k. Some k) linked.aligned;
  others = λ i n.
      ⊎_elim
      (λ (same : is_link_of i n (leaf_link index number) ≡ true).
      let parts = and_parts (index == i) (number == n) same in
      inr (sym (eqb-true index i parts.0), sym (eqb-true number n parts.1)))
      (λ (apart : is_link_of i n (leaf_link index number) ≡ false).
      inl
      (⊎_elim
      (λ (less : i < length old.links.items).
      ap (λ (steps : ℕ). found (spot_within new.links.items steps i n n i First)) longer
      ∙ added-elsewhere old.links.items new.links.items index number j s linked.rising added i n apart
      (length old.links.items) n i First less (omega arith))
      (λ (far : length old.links.items ≤ i).
      ap found
      (search-none new.links.items (length new.links.items) i n (far-new i far)
      ∙ sym
      (search-none old.links.items (length old.links.items) i n
      (ap (λ l. link_behind l First) (link_at-past old.links.items i far)))))
      (cases_lt i (length old.links.items))))
      (cases_Bool (is_link_of i n (leaf_link index number)));
}
  where
    longer : length new.links.items ≡ suc (length old.links.items)
    longer = omega (arith, added.longer)

    inside_links : index < length old.links.items
    inside_links = omega (arith, inside, linked.aligned)

    far-new : (i : ℕ) → length old.links.items ≤ i → link_behind (link_at new.links.items i) First ≡ 0
    far-new i far =
        ⊎_elim
        (λ (is : i ≡ length old.links.items).
        ap (λ k. link_behind (link_at new.links.items k) First) is ∙ ap (λ l. link_behind l First) added.last)
        (λ (other : i ≢ length old.links.items).
        ap (λ l. link_behind l First) (link_at-past new.links.items i (omega (arith, far, added.longer))))
        (cases_eq i (length old.links.items))

pub node_at-get : (tree : Tree) (i : ℕ) → node_at tree i ≡ get_or tree.nodes.items i (empty_node 0)
node_at-get tree i = unwrap_or-slice_get tree.nodes.items i (empty_node 0)

node_at-past : (tree : Tree) (i : ℕ) → length tree.nodes.items ≤ i → node_at tree i ≡ empty_node 0
node_at-past tree i far = node_at-get tree i ∙ get_or_past tree.nodes.items i (empty_node 0) far

-- the nodes after one was added below `index`, which may reach further now
pub record IsNodeAdded (old new : Tree) (index : ℕ) : Type 0 where
  pub longer : length new.nodes.items ≡ length old.nodes.items + 1
  pub progress : (i : ℕ) → (node_at new i).progress ≡ (node_at old i).progress
  pub parent : (i : ℕ) → i < length old.nodes.items → (node_at new i).parent ≡ (node_at old i).parent
  pub added : (node_at new (length old.nodes.items)).parent ≡ index
  pub reach : (i : ℕ) → i < length old.nodes.items → (node_at old i).reach ≤ (node_at new i).reach
  pub small : (i : ℕ) → (node_at new i).reach ≤ 2 ^ 48 + 1

place-kept : (old new : Tree) → ((i n k : ℕ) → child old i n ≡ Some k → child new i n ≡ Some k)
    → (up : List ℕ) (k : ℕ) → place (child old) up ≡ Some k → place (child new) up ≡ Some k
place-kept old new kept [] k e = e
place-kept old new kept (n ∷ up) k e = by_parent (place-kept old new kept up) (place (child old) up) refl
  where
    by_parent : ((i : ℕ) → place (child old) up ≡ Some i → place (child new) up ≡ Some i) → (o : Option ℕ)
        → place (child old) up ≡ o → place (child new) (n ∷ up) ≡ Some k
    by_parent above None f = absurd (none_some k (sym (ap (option_and_then (λ i. child old i n)) f) ∙ e))
    by_parent above (Some i) f =
        place-child (child new) n up i (above i f)
        ∙ kept i n k (sym (place-child (child old) n up i f) ∙ e)

-- a node of the new tree is one of the old tree, or the added one
place-new : (old new : Tree) (last : ℕ)
    → ((i n k : ℕ) → child new i n ≡ Some k → (child old i n ≡ Some k) ⊎ (k ≡ last))
    → ((n k : ℕ) → child new last n ≡ Some k → ⊥) → (up : List ℕ) (k : ℕ) → place (child new) up ≡ Some k
    → (place (child old) up ≡ Some k) ⊎ (k ≡ last)
place-new old new last known leaf [] k e = inl e
place-new old new last known leaf (n ∷ up) k e =
    by_parent (place-new old new last known leaf up) (place (child new) up) refl
  where
    by_parent : ((i : ℕ) → place (child new) up ≡ Some i → (place (child old) up ≡ Some i) ⊎ (i ≡ last))
        → (o : Option ℕ) → place (child new) up ≡ o → (place (child old) (n ∷ up) ≡ Some k) ⊎ (k ≡ last)
    by_parent above None f = absurd (none_some k (sym (ap (option_and_then (λ i. child new i n)) f) ∙ e))
    by_parent above (Some i) f =
        let step : child new i n ≡ Some k = sym (place-child (child new) n up i f) ∙ e in
        ⊎_elim
        (λ (there : place (child old) up ≡ Some i).
        ⊎_elim (λ (was : child old i n ≡ Some k). inl (place-child (child old) n up i there ∙ was))
        (λ is. inr is) (known i n k step))
        (λ (is : i ≡ last). absurd (leaf n k (ap (λ j. child new j n) (sym is) ∙ step)))
        (above i f)

-- what the new tree says of a path is what the old one said
progress-same : (old new : Tree) (last : ℕ) → length old.nodes.items ≤ last
    → ((i n k : ℕ) → child old i n ≡ Some k → child new i n ≡ Some k)
    → ((i n k : ℕ) → child new i n ≡ Some k → (child old i n ≡ Some k) ⊎ (k ≡ last))
    → ((n k : ℕ) → child new last n ≡ Some k → ⊥)
    → ((i : ℕ) → (node_at new i).progress ≡ (node_at old i).progress) → (up : List ℕ)
    → progress_at new up ≡ progress_at old up
progress-same old new last past kept known leaf same up = by_place (place (child new) up) refl
  where
    by_place : (o : Option ℕ) → place (child new) up ≡ o → progress_at new up ≡ progress_at old up
    by_place None f =
        progress_at-none new up f ∙ sym (progress_at-none old up (by_old (place (child old) up) refl))
      where
        by_old : (o : Option ℕ) → place (child old) up ≡ o → place (child old) up ≡ None
        by_old None g = g
        by_old (Some i) g = absurd (none_some i (sym f ∙ place-kept old new kept up i g))
    by_place (Some k) f =
        ⊎_elim
        (λ (was : place (child old) up ≡ Some k).
        progress_at-place new up k f ∙ same k ∙ sym (progress_at-place old up k was))
        (λ (is : k ≡ last).
        let far : length old.nodes.items ≤ k = omega arith in
        progress_at-place new up k f ∙ same k ∙ empty k far ∙ sym (by_old far (place (child old) up) refl))
        (place-new old new last known leaf up k f)
      where
        empty : (i : ℕ) → length old.nodes.items ≤ i → (node_at old i).progress ≡ no_progress
        empty i far =
            ap (λ (node : Node). node.progress)
            (unwrap_or-slice_get old.nodes.items i (empty_node 0)
            ∙ get_or_past old.nodes.items i (empty_node 0) far)

        by_old : length old.nodes.items ≤ k → (o : Option ℕ) → place (child old) up ≡ o
            → progress_at old up ≡ no_progress
        by_old far None g = progress_at-none old up g
        by_old far (Some i) g =
            let again : i ≡ k = same_some i k (sym (place-kept old new kept up i g) ∙ f) in
            progress_at-place old up i g ∙ empty i (omega (arith, far, again))

-- ---- the two ways in which a tree grows

-- a node that is a child
pub IsGrown-child : (old new : Tree) (index number : ℕ) → IsTreeLinked old → AreLinksRising new.links.items
    → length new.links.items ≡ length old.links.items + 1 → index < length old.nodes.items
    → child old index number ≡ None → IsNodeAdded old new index
    → IsChildAdded old new index number (length old.nodes.items) → number < (node_at new index).reach
    → IsGrown old new
IsGrown-child old new index number linked rising longer inside missing added child_added reaches = record {
  linked = record {
    rising = rising;
    aligned = omega (arith, longer, linked.aligned, added.longer);
    within = λ i n k e.
        ⊎_elim
        (λ (was : child old i n ≡ Some k).
        let w = linked.within i n k was in (w.0, omega (arith, w.1, added.longer)))
        (λ (is : (i ≡ index) × ((n ≡ number) × (k ≡ length old.nodes.items))).
        (omega (arith, is.0, is.1.1, inside), omega (arith, is.1.1, added.longer)))
        (cases i n k e);
    back = λ i n k e.
        ⊎_elim
        (λ (was : child old i n ≡ Some k).
        let w = linked.within i n k was in added.parent k w.1 ∙ linked.back i n k was)
        (λ (is : (i ≡ index) × ((n ≡ number) × (k ≡ length old.nodes.items))).
        ap (λ j. (node_at new j).parent) is.1.1 ∙ added.added ∙ sym is.0)
        (cases i n k e);
    apart = λ i m n k e f.
        ⊎_elim
        (λ (was : child old i m ≡ Some k). let w = linked.within i m k was in
        ⊎_elim (λ (also : child old i n ≡ Some k). linked.apart i m n k was also)
        (λ (is : (i ≡ index) × ((n ≡ number) × (k ≡ length old.nodes.items))).
        absurd (omega (arith, w.1, is.1.1)))
        (cases i n k f))
        (λ (is : (i ≡ index) × ((m ≡ number) × (k ≡ length old.nodes.items))).
        ⊎_elim
        (λ (also : child old i n ≡ Some k).
        let w = linked.within i n k also in absurd (omega (arith, w.1, is.1.1)))
        (λ (too : (i ≡ index) × ((n ≡ number) × (k ≡ length old.nodes.items))). is.1.0 ∙ sym too.1.0)
        (cases i n k f))
        (cases i m k e);
    reach = λ i n k e.
        ⊎_elim (λ (was : child old i n ≡ Some k). let w = linked.within i n k was in
        let less : i < length old.nodes.items = omega (arith, w.0, w.1) in
        omega (arith, linked.reach i n k was, added.reach i less))
        (λ (is : (i ≡ index) × ((n ≡ number) × (k ≡ length old.nodes.items))).
        let here : (node_at new i).reach ≡ (node_at new index).reach = ap (λ j. (node_at new j).reach) is.0 in
        omega (arith, here, is.1.0, reaches))
        (cases i n k e);
    small = added.small;
  };
  longer = omega (arith, added.longer);
  same = progress-same old new (length old.nodes.items) (omega arith) kept
      (λ i n k e.
      ⊎_elim (λ (was : child old i n ≡ Some k). inl was)
      (λ (is : (i ≡ index) × ((n ≡ number) × (k ≡ length old.nodes.items))). inr is.1.1)
      (cases i n k e))
      (λ n k e.
      ⊎_elim
      (λ (was : child old (length old.nodes.items) n ≡ Some k).
      let w = linked.within (length old.nodes.items) n k was in omega (arith, w.0, w.1))
      (λ (is : (length old.nodes.items ≡ index) × ((n ≡ number) × (k ≡ length old.nodes.items))).
      omega (arith, is.0, inside))
      (cases (length old.nodes.items) n k e))
      added.progress;
  kept = place-kept old new kept;
}
  where
    cases : (i n k : ℕ) → child new i n ≡ Some k
        → (child old i n ≡ Some k) ⊎ ((i ≡ index) × ((n ≡ number) × (k ≡ length old.nodes.items)))
    cases i n k e =
        ⊎_elim (λ (same : child new i n ≡ child old i n). inl (sym same ∙ e))
        (λ (is : (i ≡ index) × (n ≡ number)).
        let made : child new i n ≡ Some (length old.nodes.items) =
        ap (λ j. child new j n) is.0 ∙ ap (λ m. child new index m) is.1 ∙ child_added.here in
        inr (is.0, (is.1, same_some k (length old.nodes.items) (sym e ∙ made))))
        (child_added.others i n)

    kept : (i n k : ℕ) → child old i n ≡ Some k → child new i n ≡ Some k
    kept i n k e =
        ⊎_elim (λ (same : child new i n ≡ child old i n). same ∙ e)
        (λ (is : (i ≡ index) × (n ≡ number)).
        let none : child old i n ≡ None =
        ap (λ j. child old j n) is.0 ∙ ap (λ m. child old index m) is.1 ∙ missing in
        absurd (none_some k (sym none ∙ e)))
        (child_added.others i n)

-- ---- the lists of nodes

-- the nodes are the old ones, but for one that stays what it was with a greater reach, and a new last one
record IsOneMore (old new : Tree) (index : ℕ) (node : Node) : Type 0 where
  longer : length new.nodes.items ≡ length old.nodes.items + 1
  before : (i : ℕ) → i < length old.nodes.items → i ≢ index → node_at new i ≡ node_at old i
  here : node_at new index ≡ node
  last : node_at new (length old.nodes.items) ≡ empty_node index
  progress : node.progress ≡ (node_at old index).progress
  parent : node.parent ≡ (node_at old index).parent
  reach : (node_at old index).reach ≤ node.reach
  small : node.reach ≤ 2 ^ 48 + 1

IsNodeAdded-one_more : (old new : Tree) (index : ℕ) (node : Node) → IsTreeLinked old
    → index < length old.nodes.items → IsOneMore old new index node → IsNodeAdded old new index
IsNodeAdded-one_more old new index node linked inside one = record {
  longer = one.longer;
  progress = λ i. by_index (λ (x y : Node). x.progress ≡ y.progress) i (λ x. refl) (one.progress) refl;
  parent = λ i less.
      ⊎_elim
      (λ (is : i ≡ index).
      ap (λ j. (node_at new j).parent) is ∙ ap (λ (x : Node). x.parent) one.here ∙ one.parent
      ∙ ap (λ j. (node_at old j).parent) (sym is))
      (λ (other : i ≢ index). ap (λ (x : Node). x.parent) (one.before i less other)) (cases_eq i index);
  added = ap (λ (x : Node). x.parent) one.last;
  reach = λ i less.
      ⊎_elim
      (λ (is : i ≡ index).
      let new_here : (node_at new i).reach ≡ node.reach =
      ap (λ j. (node_at new j).reach) is ∙ ap (λ (x : Node). x.reach) one.here in
      let old_here : (node_at old i).reach ≡ (node_at old index).reach = ap (λ j. (node_at old j).reach) is in
      omega (arith, new_here, old_here, one.reach))
      (λ (other : i ≢ index).
      let same : (node_at new i).reach ≡ (node_at old i).reach =
      ap (λ (x : Node). x.reach) (one.before i less other) in
      omega (arith, same))
      (cases_eq i index);
  small =
      λ i.
      by_index (λ (x y : Node). y.reach ≤ 2 ^ 48 + 1 → x.reach ≤ 2 ^ 48 + 1) i (λ x h. h) (λ h. one.small)
      (λ h. omega arith) (linked.small i);
}
  where
    by_index : (P : Node → Node → Type 0) (i : ℕ) → ((x : Node) → P x x) → P node (node_at old index)
        → P (empty_node index) (empty_node 0) → P (node_at new i) (node_at old i)
    by_index P i same changed added =
        ⊎_elim
        (λ (is : i ≡ index).
        subst (λ j. P (node_at new j) (node_at old j)) (sym is)
        (subst (λ x. P x (node_at old index)) (sym one.here) changed))
        (λ (other : i ≢ index).
        ⊎_elim
        (λ (less : i < length old.nodes.items).
        subst (λ x. P x (node_at old i)) (sym (one.before i less other)) (same (node_at old i)))
        (λ (far : length old.nodes.items ≤ i).
        ⊎_elim
        (λ (is : i ≡ length old.nodes.items).
        subst (λ y. P (node_at new i) y) (sym (node_at-past old i far))
        (subst (λ x. P x (empty_node 0)) (sym (ap (node_at new) is ∙ one.last)) added))
        (λ (beyond : i ≢ length old.nodes.items).
        subst (λ y. P (node_at new i) y) (sym (node_at-past old i far))
        (subst (λ x. P x (empty_node 0)) (sym (node_at-past new i (omega (arith, one.longer))))
        (same (empty_node 0))))
        (cases_eq i (length old.nodes.items)))
        (cases_lt i (length old.nodes.items)))
        (cases_eq i index)

pub IsNodeAdded-set : (old new : Tree) (index : ℕ) (node : Node) → IsTreeLinked old
    → index < length old.nodes.items
    → new.nodes.items ≡ set (old.nodes.items ++ empty_node index ∷ []) index node
    → node.progress ≡ (node_at old index).progress → node.parent ≡ (node_at old index).parent
    → (node_at old index).reach ≤ node.reach → node.reach ≤ 2 ^ 48 + 1 → IsNodeAdded old new index
IsNodeAdded-set old new index node linked inside e progress parent reach small =
    IsNodeAdded-one_more old new index node linked inside (record {
      longer =
          ap length e ∙ length-set pushed index node
          ∙ length-append old.nodes.items (empty_node index ∷ []);
      before = λ i less other.
          at i ∙ get_or-set_other pushed index i node (empty_node 0) other
          ∙ get_or_append_left old.nodes.items (empty_node index ∷ []) (empty_node 0) i less
          ∙ sym (node_at-get old i);
      here =
          at index
          ∙ get_or-set_same pushed index node (empty_node 0)
          (omega (arith, length-append old.nodes.items (empty_node index ∷ [])));
      last =
          at (length old.nodes.items)
          ∙ get_or-set_other pushed index (length old.nodes.items) node (empty_node 0)
          (λ same. omega (arith, same, inside))
          ∙ get_or_push old.nodes.items (empty_node index) (empty_node 0) (length old.nodes.items) refl;
      progress = progress;
      parent = parent;
      reach = reach;
      small = small;
    })
  where
    pushed : List Node
    pushed = old.nodes.items ++ empty_node index ∷ []

    at : (i : ℕ) → node_at new i ≡ get_or (set pushed index node) i (empty_node 0)
    at i = node_at-get new i ∙ ap (λ xs. get_or xs i (empty_node 0)) e

pub IsGrown-through : (a b c : Tree) → IsGrown a b → IsGrown b c → IsGrown a c
IsGrown-through a b c one two = record {
  linked = two.linked;
  longer = omega (arith, one.longer, two.longer);
  same = λ up. two.same up ∙ one.same up;
  kept = λ up i e. two.kept up i (one.kept up i e);
}

-- nothing was added
pub IsGrown-same : (old new : Tree) → new.nodes.items ≡ old.nodes.items → new.links.items ≡ old.links.items
    → IsTreeLinked old → IsGrown old new
IsGrown-same old new nodes links linked = record {
  linked = record {
    rising = subst AreLinksRising (sym links) linked.rising;
    aligned = ap length links ∙ linked.aligned ∙ sym (ap length nodes);
    within =
        λ i n k e.
        let w = linked.within i n k (was i n k e) in (w.0, subst (λ xs. k < length xs) (sym nodes) w.1);
    back = λ i n k e. ap (λ (x : Node). x.parent) (at k) ∙ linked.back i n k (was i n k e);
    apart = λ i m n k e f. linked.apart i m n k (was i m k e) (was i n k f);
    reach =
        λ i n k e.
        let here : (node_at new i).reach ≡ (node_at old i).reach = ap (λ (x : Node). x.reach) (at i) in
        omega (arith, here, linked.reach i n k (was i n k e));
    small =
        λ i.
        let here : (node_at new i).reach ≡ (node_at old i).reach = ap (λ (x : Node). x.reach) (at i) in
        omega (arith, here, linked.small i);
  };
  longer =
      let same : length new.nodes.items ≡ length old.nodes.items = ap length nodes in omega (arith, same);
  same =
      progress-same old new (length old.nodes.items) (omega arith) (λ i n k e. same i n ∙ e)
      (λ i n k e. inl (was i n k e))
      (λ n k e.
      let w = linked.within (length old.nodes.items) n k (was (length old.nodes.items) n k e) in
      omega (arith, w.0, w.1))
      (λ i. ap (λ (x : Node). x.progress) (at i));
  kept = place-kept old new (λ i n k e. same i n ∙ e);
}
  where
    same : (i n : ℕ) → child new i n ≡ child old i n
    same i n = ap (λ xs. found (spot_of xs i n)) links

    was : (i n k : ℕ) → child new i n ≡ Some k → child old i n ≡ Some k
    was i n k e = sym (same i n) ∙ e

    at : (i : ℕ) → node_at new i ≡ node_at old i
    at i = ap (λ xs. unwrap_or (slice_get xs i) (empty_node 0)) nodes

-- a node was added, made a child, and its parent reaches to it
pub IsGrown-made : (old mid linked_mid new : Tree) (index number j : ℕ) (s : Side) → IsTreeLinked old
    → index < length old.nodes.items → number ≤ 2 ^ 48 → spot_of old.links.items index number ≡ Missing j s
    → mid.nodes.items ≡ old.nodes.items ++ empty_node index ∷ []
    → mid.links.items ≡ old.links.items ++ leaf_link index number ∷ []
    → linked_mid.nodes ≡ mid.nodes
    → linked_mid.links.items
    ≡ set mid.links.items j (with_link (link_at mid.links.items j) s (length old.nodes.items))
    → new.nodes.items ≡ set linked_mid.nodes.items index (with_reach (node_at linked_mid index) number)
    → new.links ≡ linked_mid.links
    → (IsGrown old new) × (child new index number ≡ Some (length old.nodes.items))
    × ((next : ℕ)
    → spot_of new.links.items (length old.nodes.items) next ≡ Missing (length old.nodes.items) First)
IsGrown-made old mid linked_mid new index number j s linked inside small spot pushed pushed_link mid_same put
    written same_links = (
      IsGrown-child old new index number linked
          (AreLinksRising-added old.links.items new.links.items index number j s linked.rising link_added)
          link_added.longer inside (ap found spot)
          (IsNodeAdded-set old new index (with_reach (node_at old index) number) linked inside items refl refl
          (omega arith) (omega (arith, linked.small index)))
          child_added reached,
      child_added.here,
      (λ next. search-none new.links.items (length new.links.items) (length old.nodes.items) next
          (ap (λ i. link_behind (link_at new.links.items i) First) (sym linked.aligned)
          ∙ ap (λ l. link_behind l First) link_added.last)),
    )
  where
    links : new.links.items
        ≡ set (old.links.items ++ leaf_link index number ∷ []) j
        (with_link (link_at (old.links.items ++ leaf_link index number ∷ []) j) s
        (length old.links.items))
    links =
        ap (λ v. v.items) same_links ∙ put
        ∙ ap (λ xs. set xs j (with_link (link_at xs j) s (length old.nodes.items))) pushed_link
        ∙ ap
        (λ k.
        set (old.links.items ++ leaf_link index number ∷ []) j
        (with_link (link_at (old.links.items ++ leaf_link index number ∷ []) j) s k))
        (sym linked.aligned)

    ended : (j < length old.links.items) × (link_behind (link_at old.links.items j) s ≡ 0)
    ended =
        missing-at old.links.items linked.rising (length old.links.items) index number number index First j s
        (omega (arith, inside, linked.aligned)) (omega arith) spot

    link_added : IsLinkAdded old.links.items new.links.items index number j s
    link_added = IsLinkAdded-set old.links.items new.links.items index number j s ended.0 ended.1 links

    child_added : IsChildAdded old new index number (length old.nodes.items)
    child_added = IsChildAdded-from old new index number j s linked inside spot link_added

    nodes_mid : linked_mid.nodes.items ≡ old.nodes.items ++ empty_node index ∷ []
    nodes_mid = ap (λ v. v.items) mid_same ∙ pushed

    same : node_at linked_mid index ≡ node_at old index
    same = node_at-get linked_mid index ∙ ap (λ xs. get_or xs index (empty_node 0)) nodes_mid
        ∙ get_or_append_left old.nodes.items (empty_node index ∷ []) (empty_node 0) index inside
        ∙ sym (node_at-get old index)

    items : new.nodes.items
        ≡ set (old.nodes.items ++ empty_node index ∷ []) index (with_reach (node_at old index) number)
    items = written ∙ ap (λ xs. set xs index (with_reach (node_at linked_mid index) number)) nodes_mid
        ∙ ap (λ (node : Node). set (old.nodes.items ++ empty_node index ∷ []) index (with_reach node number))
        same

    reached : number < (node_at new index).reach
    reached =
        let here : node_at new index ≡ with_reach (node_at old index) number =
        node_at-get new index ∙ ap (λ xs. get_or xs index (empty_node 0)) items
        ∙ get_or-set_same (old.nodes.items ++ empty_node index ∷ []) index
        (with_reach (node_at old index) number) (empty_node 0)
        (omega (arith, length-append old.nodes.items (empty_node index ∷ []))) in
        let reach : (node_at new index).reach ≡ max (node_at old index).reach (number + 1) =
        ap (λ (node : Node). node.reach) here in
        omega (arith, reach)
