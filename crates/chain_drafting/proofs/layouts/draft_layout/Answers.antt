use Rattle.std.proofs.Common.{ℕ, pos, List, [], ◌∷◌, codes, Option, None, option_map, Bor}
use Rattle.canonical_json.specs.Json.{Json, integer, text}
use Rattle.document_parts.specs.declared.documents.Kind.TheVariants as kinds
use Rattle.drafting.specs.Drafts.{File, nothing_else}
use Rattle.drafting.specs.declared.terms.Terms.{Terms}
use Rattle.drafting.specs.steps.Rows.{PutsTerms}
use Rattle.drafting.proofs.Refusals.{unfinished}
use Rattle.drafting.proofs.Results.{if_err, if_ok}
use Rattle.drafting.proofs.Rows.{shown}
use Rattle.chain_drafting.specs.Layouts.{DraftsLayout, IsLayoutBase, Step}
use Rattle.chain_drafting.specs.steps.Recorded.{PutsSteps}
use Rattle.chain_drafting.specs.steps.Said.{steps_view}
use Rattle.chain_drafting.proofs.layouts.draft_layout.Goals as goal

layout_part : (begun : Option File) (terms : Terms) (steps : List Step) (a b c : Json) → IsLayoutBase begun a → PutsSteps steps a b → PutsTerms terms b c
    → DraftsLayout begun terms steps c
layout_part begun terms steps a b c base puts said = record {
  before = a;
  keys = puts.keys;
  names = puts.names;
  expires = said.0;
  base = base;
  keyed = puts.keyed;
  named = puts.named;
  date = said.1;
  puts = puts.more ((codes "expires", text said.0) ∷ (codes "term", integer (pos terms.seconds)) ∷ []) c said.2;
}

abbrev file : Option (Bor (List ℕ)) → Option File
file f = option_map (λ b. b.now) f

pub returns-clause-draft : goal.returns-clause-draft
returns-clause-draft c =
    let begun = file c.args.begun in
    let after = shown c.put_terms.new.members.items in
    let made = layout_part begun c.args.terms (steps_view c.args.steps.now) (shown c.in_ok-members.members.items) (shown c.put_steps.new.members.items) after
    c.in_ok-members.ensures.ok c.in_ok-put_steps.ensures c.in_ok-put_terms.ensures.ok in
    if_ok _ _ c.finish.result c.finish.ensures.ok (λ out draft. (after, made, draft))

pub returns-clause-fault : goal.returns-clause-fault
returns-clause-fault c =
    let begun = file c.args.begun in
    let after = shown c.put_terms.new.members.items in
    let made = layout_part begun c.args.terms (steps_view c.args.steps.now) (shown c.in_ok-members.members.items) (shown c.put_steps.new.members.items) after
    c.in_ok-members.ensures.ok c.in_ok-put_steps.ensures c.in_ok-put_terms.ensures.ok in
    if_err _ _ c.finish.result c.finish.ensures.err
    (λ e why. unfinished kinds.Layout None begun c.args.terms (DraftsLayout begun c.args.terms (steps_view c.args.steps.now)) nothing_else after e made why)
