use Rattle.std.proofs.Common.{◌≡◌, ℕ, List, option_map, rules, tests, ap, ap₂, ◌∙◌}
use Rattle.std.proofs.lemmas.Iterator.Consumers.{YieldsList-from_enumerate}
use Rattle.std.proofs.lemmas.Iterator.Search.{find_from_yields_List}
use Rattle.reading.specs.Cursors.{column, left}
use Rattle.statements.specs.Fields.{first_bad}
use Rattle.statements.proofs.Counts.{bad, bad_found, pieces_located}
use Rattle.statements.proofs.known.KnownLine.rejected.Goals as goal

pub returns : goal.returns
returns c =
    let k = c.args.self.now.kind in
    let it = c.enumerate.result.iter in
    let found = find_from_yields_List (bad k) _ _ c.find.result c.find.ensures.ran (YieldsList-from_enumerate (pieces_located it) c.enumerate.ensures.count) (λ x b q k. search (rules, tests)) in
    let m : c.map.result ≡ option_map (λ (p : ℕ × (ℕ × List ℕ)). p.1.0) (option_map (λ x. (x.0, (x.1.column, x.1.bytes.now))) c.find.result) = search rules in
    m ∙ ap (option_map (λ (p : ℕ × (ℕ × List ℕ)). p.1.0)) found ∙ bad_found k 0 (column it) (left it)
    ∙ ap₂ (first_bad k 0) (ap column c.enumerate.ensures.source ∙ c.fields.ensures.column) (ap left c.enumerate.ensures.source ∙ c.fields.ensures.fields)
