use Rattle.std.proofs.Common.{◌≡◌, ◌∙◌, ℕ, ◌++◌, sym, ap, rules}
use Rattle.std.proofs.lemmas.Option.{none-some, same_Some}
use Rattle.std.specs.Option.{option_copied}
use Rattle.std.specs.Global.{Vec}
use Rattle.wait_coverage.proofs.coverage.stands_at.Goals as goal
use Rattle.wait_coverage.proofs.coverage.stands_at.Goals.{in-Some+in_ok-extend_from_slice, in_default}

pub returns : goal.returns
returns c = λ records root path are stands.
    let is_root = (c.root.ensures records are root).1 (path, stands) in
    let is_path = (c.path.ensures records are path).1 (root, stands) in
    let top : c.unwrap_or-root.result ≡ root = search rules in
    elim c.match-path.branch [
      | in-Some+in_ok-extend_from_slice w ↦
          let found : w.in-Some.path.now ≡ path =
          same_Some w.in-Some.path.now path (sym (ap option_copied w.in-Some.is) ∙ is_path) in
          let whole : c.from_vec.result ≡ path =
          c.from_vec.ensures ∙ ap (λ (v : Vec ℕ). v.items) w.numbers-is
          ∙ w.in_ok-extend_from_slice.ensures.items
          ∙ ap (λ l. l ++ w.in-Some.path.now) c.new-numbers.ensures.items ∙ found in
          rw (top, whole) stands
      | in_default w ↦ absurd (none-some path (sym (ap option_copied w.in_default.is) ∙ is_path))
    ]
