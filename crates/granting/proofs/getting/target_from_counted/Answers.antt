use Rattle.std.proofs.Common.{◌≡◌, Err, refl, subst}
use Rattle.std.proofs.lemmas.Result.{err_from_is_err_and}
use Rattle.std.specs.Prelude.{IfOk, option_map}
use Rattle.denials.specs.Orders.{decide, fails}
use Rattle.metadata.specs.File.{Bytes}
use Rattle.trust_rules.specs.Grants.{grants}
use Rattle.granting.specs.Serving.{ListsDigest, Refuses, Serves, denies, forgoes, unread}
use Rattle.granting.proofs.GrantedFrom.{finds_serves, load_refuses, refuses_so}
use Rattle.granting.proofs.LoadedFiles.{became_by, found_by, stands_so, still_stands}
use Rattle.granting.proofs.ServedFrom.{load_lists, served_so}
use Rattle.granting.proofs.ShortFiles.{shape_denial}
use Rattle.granting.proofs.Counting.{counts_nothing}
use Rattle.granting.proofs.TargetFiles.{no_path}
use Rattle.granting.proofs.getting.target_from_counted.Goals as goal

pub returns-in_default-clause-answer : goal.returns-in_default-clause-answer
returns-in_default-clause-answer g c honest S stands = denies (decide (decide (fails (rw (c.in_default.is) at c.in_ok-path.ensures.none))))

pub returns-in_err-path-clause-answer : goal.returns-in_err-path-clause-answer
returns-in_err-path-clause-answer g c honest S stands =
    let p = err_from_is_err_and c.from_residual.result c.from_residual.ensures.1 in
    rw (p.1, p.2) forgoes

pub returns-in_default-clause-denial : goal.returns-in_default-clause-denial
returns-in_default-clause-denial g c = unread refl (λ S valid is. decide (decide (fails (rw (c.in_default.is) at c.in_ok-path.ensures.none))))

pub returns-in_err-path-clause-denial : goal.returns-in_err-path-clause-denial
returns-in_err-path-clause-denial g c =
    let p = err_from_is_err_and c.from_residual.result c.from_residual.ensures.1 in
    rw (p.1, p.2) tt

pub returns-in_default-clause-long : goal.returns-in_default-clause-long
returns-in_default-clause-long g c S valid is long = absurd (no_path S.trusted (rw (c.in_default.is) at c.in_ok-path.ensures.none) long.lists)

pub returns-in_err-path-clause-long : goal.returns-in_err-path-clause-long
returns-in_err-path-clause-long g c S valid is long =
    let p = err_from_is_err_and c.from_residual.result c.from_residual.ensures.1 in
    rw (p.1, p.2) (refl, tt)

pub returns-in_default-clause-counted : goal.returns-in_default-clause-counted
returns-in_default-clause-counted g c = counts_nothing _ _ _ _ _

pub returns-in_err-path-clause-counted : goal.returns-in_err-path-clause-counted
returns-in_err-path-clause-counted g c = counts_nothing _ _ _ _ _

pub returns-in-Ok-clause-answer : goal.returns-in-Ok-clause-answer
returns-in-Ok-clause-answer g c honest S stands =
    let is = rw (c.in-Some.is) at c.in_ok-path.ensures.some in
    let before = c.load.ensures.reads.was honest in
    subst (λ (path : Bytes). Serves S (grants S path (option_map (λ d. d.0) c.args.asked) c.args.now) c.load.result) is.0
    (served_so c.in-Ok.digest.0 c.load.result S c.load.ensures.loads c.in-Ok.ensures.held honest (still_stands (c.permitted.ensures.reads.stays before) stands) (found_by (stands_so S c.in-Ok.ensures.stands before stands)))

pub returns-clause-answer : goal.returns-clause-answer
returns-clause-answer g c honest S stands =
    let is = rw (c.in-Some.is) at c.in_ok-path.ensures.some in
    subst (λ (path : Bytes). Serves S (grants S path (option_map (λ d. d.0) c.args.asked) c.args.now) (Err c.in-Err.fault)) is.0
    (finds_serves c.in-Err.fault (stands_so S c.in-Err.ensures.stands honest stands))

pub returns-in-Ok-clause-denial : goal.returns-in-Ok-clause-denial
returns-in-Ok-clause-denial g c = load_refuses _ _ (g.B.Blobs.Holds c.permitted.new.blobs) _ _ _ _ _ c.in-Ok.digest.0 c.load.result c.load.ensures.loads

pub returns-clause-denial : goal.returns-clause-denial
returns-clause-denial g c =
    let is = rw (c.in-Some.is) at c.in_ok-path.ensures.some in
    let new = c.permitted.new.blobs in
    subst (λ (path : Bytes). Refuses c.args.held.now.held (λ S. grants S path (option_map (λ d. d.0) c.args.asked) c.args.now) path c.args.now (new ≡ c.args.blobs.now) (g.B.Blobs.HasLoaded new) (Err c.in-Err.fault)) is.0
    (refuses_so _ _ c.in-Err.fault c.in-Err.ensures.stands)

pub returns-in-Ok-clause-becomes : goal.returns-in-Ok-clause-becomes
returns-in-Ok-clause-becomes g c = became_by g.met.B.Blobs.becomes_on _ _ _ c.permitted.ensures.reads.becomes c.load.ensures.reads.becomes

pub returns-in-Ok-clause-long : goal.returns-in-Ok-clause-long
returns-in-Ok-clause-long g c S valid is long =
    let same = rw (c.in-Some.is) at c.in_ok-path.ensures.some in
    absurd ((rw (same.0) at c.in-Ok.ensures.long) S valid is long).1

pub returns-clause-long : goal.returns-clause-long
returns-clause-long g c S valid is long =
    let same = rw (c.in-Some.is) at c.in_ok-path.ensures.some in
    let refused = (rw (same.0) at c.in-Err.ensures.long) S valid is long in
    (refused.0, shape_denial (Unit {0}) (Unit {0}) c.in-Err.fault refused.1)

pub returns-in-Ok-clause-counted : goal.returns-in-Ok-clause-counted
returns-in-Ok-clause-counted g c =
    let same = rw (c.in-Some.is) at c.in_ok-path.ensures.some in
    rw (same.0) at c.permitted.ensures.counted

pub returns-clause-counted : goal.returns-clause-counted
returns-clause-counted g c =
    let same = rw (c.in-Some.is) at c.in_ok-path.ensures.some in
    rw (same.0) at c.permitted.ensures.counted

pub returns-in-Ok-clause-lists : goal.returns-in-Ok-clause-lists
returns-in-Ok-clause-lists g c =
    let is = rw (c.in-Some.is) at c.in_ok-path.ensures.some in
    subst (λ (path : Bytes). IfOk c.load.result (λ s. ListsDigest c.args.held.now.held.trusted path (option_map (λ d. d.0) c.args.asked) c.args.now s.digest.0)) is.0
    (load_lists _ (g.B.Blobs.Holds c.permitted.new.blobs) c.in-Ok.digest.0 c.load.result c.in-Ok.ensures.lists c.load.ensures.loads)
