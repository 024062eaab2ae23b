use Rattle.std.proofs.Common.{◌≡◌, ℕ, List, [], ◌∷◌, ◌++◌, codes, None, refl}
use Rattle.std.proofs.lemmas.Result.{err_from_is_err_and}
use Rattle.matchit.proofs.OnLiterals.{matchit_on_literals}
use Rattle.matchit.specs.Rows.{RowsOf}
use Rattle.matchit.specs.Router.{RouteOf, nearest, Refused}
use Rattle.matchit.specs.declared.error.InsertError.{InsertError}
use Rattle.matchit.specs.declared.error.InsertError.TheVariants.{Conflict, OutOfMemory, InvalidParamSegment, InvalidParam, InvalidCatchAll}
use Rattle.http_messages.specs.declared.routes.Route.{Route}
use Rattle.http_messages.specs.steps.Known.{all_routes}
use Rattle.http_messages.proofs.routes.Routes.filled.Goals as goal

pub invariant_of-result : goal.invariant_of-result
unfolding matchit_on_literals all_routes
invariant_of-result c =
    let a = c.in_ok-insert.ensures in
    let b = c.in_ok-insert-2.ensures in
    let d = c.in_ok-insert-3.ensures in
    let e = c.in_ok-insert-4.ensures in
    let f = c.in_ok-insert-5.ensures in
    record { complete = rw (f.1, e.1, d.1, b.1, a.1, c.new-router.ensures) refl }

-- what no route is in the way of is refused for want of memory alone
for_memory : (p : List ℕ) (rows : RowsOf (RouteOf Route)) (e : InsertError) → nearest p rows ≡ None → Refused p rows e → e ≡ OutOfMemory
for_memory p rows (Conflict with) none (n, some, text) = let no : ⊥ = cc in absurd no
for_memory p rows OutOfMemory none h = refl
for_memory p rows InvalidParamSegment none h = absurd h
for_memory p rows InvalidParam none h = absurd h
for_memory p rows InvalidCatchAll none h = absurd h

pub returns-in_err-insert : goal.returns-in_err-insert
unfolding matchit_on_literals
returns-in_err-insert c =
    let p = err_from_is_err_and c.from_residual.result c.from_residual.ensures.1 in
    rw (p.1, p.2) (for_memory (codes "/batch") c.new-router.result c.in_err-insert.field-0.0 (rw c.new-router.ensures refl) c.in_err-insert.ensures.1)

pub returns-in_err-insert-2 : goal.returns-in_err-insert-2
unfolding matchit_on_literals
returns-in_err-insert-2 c =
    let p = err_from_is_err_and c.from_residual-in_err-insert-2.result c.from_residual-in_err-insert-2.ensures.1 in
    rw (p.1, p.2) (for_memory (codes "/blobs/" ++ 256 ∷ []) c.insert.new.self c.in_err-insert-2.field-0.0 (rw (c.in_ok-insert.ensures.1, c.new-router.ensures) refl) c.in_err-insert-2.ensures.1)

pub returns-in_err-insert-3 : goal.returns-in_err-insert-3
unfolding matchit_on_literals
returns-in_err-insert-3 c =
    let p = err_from_is_err_and c.from_residual-in_err-insert-3.result c.from_residual-in_err-insert-3.ensures.1 in
    rw (p.1, p.2) (for_memory (codes "/metadata/" ++ 256 ∷ []) c.insert-2.new.self c.in_err-insert-3.field-0.0 (rw (c.in_ok-insert-2.ensures.1, c.in_ok-insert.ensures.1, c.new-router.ensures) refl) c.in_err-insert-3.ensures.1)

pub returns-in_err-insert-4 : goal.returns-in_err-insert-4
unfolding matchit_on_literals
returns-in_err-insert-4 c =
    let p = err_from_is_err_and c.from_residual-in_err-insert-4.result c.from_residual-in_err-insert-4.ensures.1 in
    rw (p.1, p.2) (for_memory (codes "/prune") c.insert-3.new.self c.in_err-insert-4.field-0.0 (rw (c.in_ok-insert-3.ensures.1, c.in_ok-insert-2.ensures.1, c.in_ok-insert.ensures.1, c.new-router.ensures) refl) c.in_err-insert-4.ensures.1)

pub returns-in_err-insert-5 : goal.returns-in_err-insert-5
unfolding matchit_on_literals
returns-in_err-insert-5 c =
    let p = err_from_is_err_and c.from_residual-in_err-insert-5.result c.from_residual-in_err-insert-5.ensures.1 in
    rw (p.1, p.2) (for_memory (codes "/targets/" ++ 257 ∷ []) c.insert-4.new.self c.in_err-insert-5.field-0.0 (rw (c.in_ok-insert-4.ensures.1, c.in_ok-insert-3.ensures.1, c.in_ok-insert-2.ensures.1, c.in_ok-insert.ensures.1, c.new-router.ensures) refl) c.in_err-insert-5.ensures.1)
