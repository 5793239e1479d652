-- What an answer tells of the grounds of refusal behind it.
use Rattle.std.proofs.Common.{◌≡◌, Bool, true, false, Some, None, Ok, Err, Option, refl}
use Rattle.std.specs.Option.{option_or}
use Rattle.rules.specs.Refusals.{when, as_result}

pub refused_some : {E : Type 0} (o : Option E) (e : E) → as_result o ≡ Err e → o ≡ Some e
refused_some (Some f) e h = cc
refused_some None e h = cc

pub accepted_none : {E : Type 0} (o : Option E) (u : Unit {0}) → as_result o ≡ Ok u → o ≡ None
accepted_none (Some f) u h = cc
accepted_none None u h = refl

pub when_none : {X : Type 0} (b : Bool) (x : X) → when b x ≡ None → b ≡ false
when_none true x h = cc
when_none false x h = refl

pub option_or_none : {X : Type 0} (o p : Option X) → option_or o p ≡ None → (o ≡ None) × (p ≡ None)
option_or_none (Some x) p h = (cc, cc)
option_or_none None p h = (refl, h)
