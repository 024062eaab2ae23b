use Rattle.std.proofs.Common.{◌≡◌, true, false, List, ℕ, IfSome, IfNone, IsUtf8, rules, sym, subst}
use Rattle.keys_roles.specs.Views.{id_text}
use Rattle.drafting.specs.Names.{Calls}
use Rattle.drafting.proofs.Called.{called, digits_utf8, found_at, none_there, uncalled}
use Rattle.drafting.proofs.names.name_of_key.Goals as goal

pub returns-in_default-from_utf8-clause-none : goal.returns-in_default-from_utf8-clause-none
returns-in_default-from_utf8-clause-none c = λ part can name calls.
    let is : c.digits-digits.result ≡ id_text c.args.id.now = search rules in
    let hex = c.one_digest.ensures.spelled c.args.id.now.0 (search rules) in
    c.in_default-from_utf8.ensures.cases.0 (subst (λ (z : List ℕ). IsUtf8 z) (sym is) (digits_utf8 (id_text c.args.id.now) hex))

pub returns-in_default-member-clause-none : goal.returns-in_default-member-clause-none
returns-in_default-member-clause-none c = λ part can name calls.
    let f = c.in-Some.ensures.found part can in
    let is : c.in-Ok.id.now ≡ id_text c.args.id.now = search rules in
    none_there part f.0 c.args.signed.now c.in-Some.names.now c.in-Ok.id.now can f.1 f.2 (λ v x a b. let e : false ≡ true = c.in_default-member.ensures.none v x a b in cc) name
    (subst (λ (z : List ℕ). Calls part z name) (sym is) calls)

pub returns-clause-some : goal.returns-clause-some
returns-clause-some c = λ part can.
    let f = c.in-Some.ensures.found part can in
    let is : c.in-Ok.id.now ≡ id_text c.args.id.now = search rules in
    let at = found_at part f.0 c.args.signed.now c.in-Some.names.now c.in-Ok.id.now c.in-Some-member.spelled.now can f.1 f.2 (c.in-Some-member.ensures.found f.0) in
    subst (λ (z : List ℕ). IfSome c.plain_text.result (λ t. Calls part z t.now)) is
    (called c.one_spelling.ensures.one_value part c.args.signed.now c.in-Some.names.now c.in-Ok.id.now c.in-Some-member.spelled.now at c.plain_text.result c.plain_text.ensures.some)

pub returns-clause-none : goal.returns-clause-none
returns-clause-none c = λ part can.
    let f = c.in-Some.ensures.found part can in
    let is : c.in-Ok.id.now ≡ id_text c.args.id.now = search rules in
    let at = found_at part f.0 c.args.signed.now c.in-Some.names.now c.in-Ok.id.now c.in-Some-member.spelled.now can f.1 f.2 (c.in-Some-member.ensures.found f.0) in
    subst (λ (z : List ℕ). IfNone c.plain_text.result ((name : List ℕ) → Calls part z name → ⊥)) is
    (uncalled part c.args.signed.now c.in-Some.names.now c.in-Ok.id.now c.in-Some-member.spelled.now at c.plain_text.result c.plain_text.ensures.none)
