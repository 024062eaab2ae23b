use Rattle.std.proofs.Common.{◌≡◌, ap, ◌∙◌, subst}
use Rattle.trust_rules.specs.State.{IsState}
use Rattle.trust_rules.specs.Contents.{contents_of}
use Rattle.trust_rules.specs.steps.Stored.{AreStored}
use Rattle.state_parts.specs.Views.{effects_view}
use Rattle.repository_rows.specs.Contents.{contents_view}
use Rattle.trust_rules.proofs.ShapedOnce.{Shapes}
use Rattle.trust_rules.proofs.RowsOfOneState.{laid_once, loaded_is, no_state, ok_none, ok_some, stored_read}
use Rattle.trusted_state.proofs.state.State.load.Goals as goal

pub returns-in_default-clause-none : goal.returns-in_default-clause-none
returns-in_default-clause-none c =
    let law : Shapes = record { document = c.one_document.ensures; none = c.one_shape.ensures.none; one = c.one_shape.ensures.one } in
    no_state law (contents_view c.args.contents) (λ E h s. (rw (c.in_default.is) at c.in_ok-files.ensures.none) E h)

pub settle-requires : goal.settle-requires
settle-requires c =
    stored_read (contents_view c.args.contents) (effects_view c.in-Some.files) (rw (c.in-Some.is) at c.in_ok-files.ensures.some)

pub returns-clause-some : goal.returns-clause-some
returns-clause-some c =
    let law : Shapes = record { document = c.one_document.ensures; none = c.one_shape.ensures.none; one = c.one_shape.ensures.one } in
    let stored : AreStored (contents_view c.args.contents) (effects_view c.in-Some.files) = rw (c.in-Some.is) at c.in_ok-files.ensures.some in
    ok_some _ (λ s. contents_of s.state ≡ contents_view c.args.contents)
    (λ s h. ap contents_of h.0 ∙ loaded_is law (contents_view c.args.contents) (effects_view c.in-Some.files) stored h.1) c.settle.result c.settle.ensures.some

pub returns-clause-none : goal.returns-clause-none
returns-clause-none c =
    let law : Shapes = record { document = c.one_document.ensures; none = c.one_shape.ensures.none; one = c.one_shape.ensures.one } in
    let stored : AreStored (contents_view c.args.contents) (effects_view c.in-Some.files) = rw (c.in-Some.is) at c.in_ok-files.ensures.some in
    ok_none _ _
    (λ none. no_state law (contents_view c.args.contents)
    (λ E h s. none (subst IsState (laid_once law (contents_view c.args.contents) E (effects_view c.in-Some.files) h stored) s)))
    c.settle.result c.settle.ensures.none
