use Rattle.std.proofs.Common.{◌∙◌, [], ◌∷◌, ◌++◌, ap}
use Rattle.wait_coverage.proofs.coverage.Coverage.only_span.Goals as goal

pub returns : goal.returns
returns c = λ id here. record {
  span = c.in_ok-span.field-0;
  only = c.in_ok-push.ensures.items ∙ ap (λ l. l ++ c.in_ok-span.field-0 ∷ []) c.new-spans.ensures.items;
  is_span = c.in_ok-span.ensures id here;
}
