-- What is said of a rule that is made of its parts.
use Rattle.std.specs.Prelude.{◌≡◌, ℕ, List, Some, Ok, Err, Result}
use Rattle.measure.specs.declared.price.Price.{Price}
use Rattle.rules.specs.Compose.{compose_refusal, composed}
use Rattle.rules.specs.declared.literal.Literal.{Literal}
use Rattle.rules.specs.declared.refusal.Refusal.{Refusal}
use Rattle.rules.specs.declared.row.Kind.{Kind}
use Rattle.rules.specs.declared.rule.Rule.{Rule}

-- the rule that composing makes of these parts, or why composing refuses them
abbrev pub Composes : Kind → List Literal → ℕ → Price → Result Rule Refusal → Type 0
Composes k ps target price (Ok r) = r.row ≡ composed k ps target price
Composes k ps target price (Err e) = compose_refusal k ps price ≡ Some e
