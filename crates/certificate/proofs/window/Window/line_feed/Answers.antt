use Rattle.certificate.proofs.WindowLemmas.{IsWindow-searched, IsFirstByte-none, IsFirstByte-behind}
use Rattle.certificate.proofs.window.Window.line_feed.Goals as goal

pub invariant_of-self : goal.invariant_of-self
invariant_of-self c =
    let w = c.self.inside in
    IsWindow-searched w.bytes.items w.start w.searched w.end c.self.invariant
    (rw c.deref.ensures.value at c.in-None.ensures)

pub returns-in-Some-clause-first : goal.returns-in-Some-clause-first
returns-in-Some-clause-first c =
    let w = c.self.inside in
    rw (← c.self.view_is)
    (IsFirstByte-behind w.bytes.items w.start w.searched w.end c.in-Some.at c.self.invariant
    (rw c.deref.ensures.value at c.in-Some.ensures))

pub returns-in-None-clause-first : goal.returns-in-None-clause-first
returns-in-None-clause-first c =
    let w = c.self.inside in
    rw (← c.self.view_is)
    (IsFirstByte-none w.bytes.items w.start w.end
    (IsWindow-searched w.bytes.items w.start w.searched w.end c.self.invariant
    (rw c.deref.ensures.value at c.in-None.ensures)))
