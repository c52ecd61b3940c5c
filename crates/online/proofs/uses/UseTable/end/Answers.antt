use Rattle.std.proofs.Common.{ap}
use Rattle.online.specs.Uses.{location_in}
use Rattle.online.specs.Groups.{group_at}
use Rattle.online.specs.Uses.{numbers_of, location_of}
use Rattle.std.proofs.Common.{None, refl, sym, subst, ◌∷◌, ◌∙◌}
use Rattle.online.specs.Uses.{IsTable, family_at}
use Rattle.online.proofs.GroupLemmas.{put_here, put_apart}
use Rattle.online.proofs.UseLemmas.{table_counts}
use Rattle.online.proofs.UseEnds.{table_gone}
use Rattle.online.proofs.uses.UseTable.end.Goals as goal

pub returns-clause-ended : goal.returns-clause-ended
returns-clause-ended c = λ history ends gone is.
    let families = c.take_family-family.new.families in (
      is.0,
      subst
          (λ m. IsTable history ends (c.args.parent ∷ gone) is.0 (group_at c.release_all.new.groups) m
          (numbers_of c.args.self.now) (λ p w. location_in (family_at families p) w))
          (sym c.in_ok-release_all.ensures.next)
          (table_gone history ends gone is.0 (group_at c.release_all.new.groups) c.args.self.now.groups.next
          (numbers_of c.args.self.now) (location_of c.args.self.now)
          (λ p w. location_in (family_at families p) w) c.args.parent
          (λ p w apart.
          ap (λ f. location_in f w)
          (c.take_family-family.ensures.others p
          ∙ put_apart (family_at c.args.self.now.families) c.args.parent None p apart))
          (λ w. ap (λ f. location_in f w)
          (c.take_family-family.ensures.others c.args.parent
          ∙ put_here (family_at c.args.self.now.families) c.args.parent None c.args.parent refl))
          (table_counts history ends gone is.0 (group_at c.args.self.now.groups)
          (group_at c.release_all.new.groups) c.args.self.now.groups.next (numbers_of c.args.self.now)
          (location_of c.args.self.now) c.in_ok-release_all.ensures.counted is.1)),
    )
