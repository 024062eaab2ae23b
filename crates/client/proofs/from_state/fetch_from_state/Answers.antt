use Rattle.std.proofs.Common.{refl}
use Rattle.trust_rules.proofs.ShapedOnce.{Shapes}
use Rattle.client.specs.declared.from_state.StateSource.{StateSource}
use Rattle.client.proofs.Composing.{becomes}
use Rattle.client.proofs.StateSources.{IsAt, gives_of, honest_source}
use Rattle.client.proofs.WholeCalls.{fetched_from, stopped_from}
use Rattle.client.proofs.from_state.fetch_from_state.Goals as goal

pub returns-in-Ok : goal.returns-in-Ok
returns-in-Ok g c =
    let shapes : Shapes = record { document = c.one_document.ensures; none = c.one_shape.ensures.none; one = c.one_shape.ensures.one } in
    fetched_from c.laws.ensures.roots c.laws.ensures.news c.laws.ensures.grants c.laws.ensures.steps shapes c.args.server.now.state c.is_valid.ensures c.args.path.now c.as_str-text.ensures.path c.args.now
    (gives_of (λ (s : StateSource). s.server.now.state) (λ s. s.now)) (IsAt (λ (s : StateSource). s.server.now.state) (λ s. s.now) c.args.server.now.state c.args.now)
    (honest_source (λ (s : StateSource). s.server.now.state) (λ s. s.now) c.args.server.now.state c.args.now) _ _ _ _ _ _ _ (refl, refl) c.in-Ok.ensures (becomes _ _ c.fetch_target.ensures.fetches (λ C D h. h.0))

pub returns-in-Err : goal.returns-in-Err
returns-in-Err g c =
    let shapes : Shapes = record { document = c.one_document.ensures; none = c.one_shape.ensures.none; one = c.one_shape.ensures.one } in
    stopped_from c.laws.ensures.roots c.laws.ensures.news c.laws.ensures.grants c.laws.ensures.steps shapes c.args.server.now.state c.is_valid.ensures c.args.path.now c.as_str-text.ensures.path c.args.now
    (gives_of (λ (s : StateSource). s.server.now.state) (λ s. s.now)) (IsAt (λ (s : StateSource). s.server.now.state) (λ s. s.now) c.args.server.now.state c.args.now)
    (honest_source (λ (s : StateSource). s.server.now.state) (λ s. s.now) c.args.server.now.state c.args.now) _ _ _ _ _ (refl, refl) c.in-Err.ensures
