use Rattle.std.proofs.Common.{rules, ◌≡◌, ◌≢◌}
use Rattle.clap.specs.Words.{kind_of}
use Rattle.clap.specs.declared.error.kind.ErrorKind.TheVariants.{DisplayVersion}
use Rattle.taskaudit.specs.Tellings.{version, said}
use Rattle.taskaudit.proofs.telling.show_words.Goals as goal

pub returns-then-eq : goal.returns-then-eq
returns-then-eq g c =
    let is : kind_of c.args.error.now ≡ DisplayVersion = search rules in
    version is c.write.ensures.made

pub returns : goal.returns
returns g c =
    let other : kind_of c.args.error.now ≢ DisplayVersion = search rules in
    said other c.show.ensures.made
