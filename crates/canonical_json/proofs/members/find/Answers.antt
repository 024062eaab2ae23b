use Rattle.std.proofs.Common.{ap, ◌∙◌, rules, ◌∷◌, [], ◌++◌}
use Rattle.canonical_json.specs.Spelling.{member_front}
use Rattle.canonical_json.specs.steps.Skipping.{behind_value}
use Rattle.canonical_json.specs.declared.members.Place.TheVariants.{Outside}
use Rattle.canonical_json.proofs.Skips.{all_left, next_left, more_behind, shorter_behind, none_behind, found_here}
use Rattle.canonical_json.proofs.members.find.Goals as goal

pub returns-in-Some-clause-found : goal.returns-in-Some-clause-found
returns-in-Some-clause-found c v canonical =
    found_here v c.args.name.now c.members.at.now c.in-Some.value.now c.value_front.result.now (c.members.invariant.left v canonical) c.in-Some.ensures.some c.value_front.ensures

pub returns-in-Some-clause-place : goal.returns-in-Some-clause-place
returns-in-Some-clause-place c =
    let front = c.members.invariant.back.0 in (
      front,
      behind_value 0 Outside c.in-Some.value.now,
      c.members.invariant.back.1 ∙ ap (λ xs. front ++ xs) (c.in-Some.ensures.some ∙ ap (λ xs. member_front c.args.name.now ++ xs) c.value_front.ensures),
    )

pub returns-in_err-at-2-clause-none : goal.returns-in_err-at-2-clause-none
returns-in_err-at-2-clause-none c v x canonical has =
    absurd (none_behind v x c.args.name.now c.members.at.now c.skip.result.now (c.members.invariant.left v canonical) (search rules) c.skip.ensures.value (search rules) has)

pub members-preserved : goal.members-preserved
members-preserved c =
    let further = more_behind c.args.bytes.now c.members.at.now c.skip.result.now 44 c.in_ok-at-2.at.now c.members.invariant.back c.skip.ensures.back c.in_ok-at-2.ensures.some in
    record {
      back = further;
      left = λ v canonical. next_left v c.args.name.now c.members.at.now c.skip.result.now c.in_ok-at-2.at.now (c.members.invariant.left v canonical) (search rules) c.skip.ensures.value c.in_ok-at-2.ensures.some;
    }

pub members-init : goal.members-init
members-init c = record {
  back = (123 ∷ [], c.in_ok-at.ensures.some);
  left = λ v canonical. all_left v c.args.bytes.now c.args.name.now c.in_ok-at.at.now canonical c.in_ok-at.ensures.some;
}

pub members-smaller : goal.members-smaller
members-smaller c = shorter_behind c.members.at.now c.skip.result.now 44 c.in_ok-at-2.at.now c.skip.ensures.back c.in_ok-at-2.ensures.some
