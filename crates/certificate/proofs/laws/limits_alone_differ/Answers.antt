use Rattle.certificate.proofs.LongFileLemmas.{file_is_long, long_is_file}
use Rattle.certificate.proofs.laws.limits_alone_differ.Goals as goal

pub returns : goal.returns
returns c = λ bytes trace. (
  λ says. (let long = file_is_long bytes trace says in (long.0, long.1.0, long.1.1)),
  λ long. long_is_file bytes trace long.0 (long.1, long.2),
)
