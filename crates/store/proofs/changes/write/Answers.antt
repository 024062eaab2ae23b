use Rattle.std.proofs.Common.{◌≡◌, ◌∙◌, Ok, Err, OnOk, ap, subst, sym}
use Rattle.sqlite.proofs.StateLemmas.{survives_weaker}
use Rattle.sqlite.specs.Held.{state}
use Rattle.repository_rows.specs.Contents.{Contents}
use Rattle.trust_rules.specs.Effects.{applied}
use Rattle.machine.specs.PartViews.{effects_view}
use Rattle.table_rows.specs.Tables.{AreSame, IsStore}
use Rattle.repository_tables.specs.Changes.{after_all}
use Rattle.store.specs.StateRows.{rows_of}
use Rattle.store.specs.steps.Changed.{changed}
use Rattle.store.proofs.Holding.{whole_as, store_as}
use Rattle.store.proofs.Fitting.{are_digests}
use Rattle.store.proofs.SameRows.{changed_is}
use Rattle.store.proofs.changes.write.Goals as goal

pub returns-clause-wrote : goal.returns-clause-wrote
returns-clause-wrote g c clean U valid then is =
    let E = effects_view c.args.effects.now in
    let made : after_all c.deref.result.now (rows_of U) ≡ changed E (rows_of U) = ap (λ l. after_all l (rows_of U)) c.deref.ensures.value ∙ c.in_ok-changes.ensures (rows_of U) in
    let same = changed_is U E (are_digests U.blobs valid.blobs) valid then (c.rows_stay.ensures U E valid then) in
    elim c.write_all.result as (λ r. OnOk r (IsStore (state g.S.Store c.write_all.new.conn) (after_all c.deref.result.now (rows_of U))) → OnOk r (IsStore (state g.S.Store c.write_all.new.conn) (rows_of (applied U E)))) [
      | Ok u ↦ λ holds. store_as _ _ _ (subst (λ T. AreSame T (rows_of (applied U E))) (sym made) same) holds
      | Err f ↦ λ holds. tt
    ] (c.write_all.ensures.wrote clean (rows_of U) is)

pub returns-clause-some : goal.returns-clause-some
returns-clause-some g c clean t is =
    elim c.write_all.result as (λ r. OnOk r (IsStore (state g.S.Store c.write_all.new.conn) (after_all c.deref.result.now t)) → OnOk r ((u : Contents) × IsStore (state g.S.Store c.write_all.new.conn) u)) [
      | Ok u ↦ λ holds. (after_all c.deref.result.now t, holds)
      | Err f ↦ λ holds. tt
    ] (c.write_all.ensures.wrote clean t is)

pub returns-clause-kept : goal.returns-clause-kept
returns-clause-kept g c clean there t is = c.write_all.ensures.kept clean there t is

pub returns-clause-crash : goal.returns-clause-crash
returns-clause-crash g c =
    let E = effects_view c.args.effects.now in
    survives_weaker _ _ _ _ (λ clean db wrote U valid then is.
    let made : after_all c.deref.result.now (rows_of U) ≡ changed E (rows_of U) = ap (λ l. after_all l (rows_of U)) c.deref.ensures.value ∙ c.in_ok-changes.ensures (rows_of U) in
    let same = changed_is U E (are_digests U.blobs valid.blobs) valid then (c.rows_stay.ensures U E valid then) in
    whole_as db _ _ (subst (λ T. AreSame T (rows_of (applied U E))) (sym made) same) (wrote (rows_of U) is)) c.write_all.ensures.crash
