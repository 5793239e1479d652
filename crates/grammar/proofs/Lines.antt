-- Lines: the text of a statement is read as it, and only that is.
use Rattle.std.proofs.lemmas.Grind.{common_steps}
use Rattle.std.proofs.Common.{◌≡◌, ℕ, ◌+◌, ◌<◌, ◌≤◌, Bool, true, false, not, ◌&&◌, ◌||◌, eqb, ltb, leb, List, [], ◌∷◌, ◌++◌, map, length, drop, Some, None, Ok, decimal, Option, sym, refl, ap, ◌∙◌, subst, arith}
use Rattle.std.specs.Option.{option_map, option_or}
use Rattle.std.specs.List.{AllByRecursion}
use Rattle.std.proofs.ByRecursion.{All-append, All-weaker}
use Rattle.std.proofs.lemmas.Bool.{and_from, and_parts, ltb-false, le-ltb, not-false, or_from, or_parts}
use Rattle.measure.specs.declared.price.Price.{Price}
use Rattle.reading.specs.Numbers.{number_up_to}
use Rattle.reading.specs.Pieces.{is_nil}
use Rattle.reading.proofs.Cuts.{left_within}
use Rattle.rules.specs.Compose.{free}
use Rattle.rules.specs.Refusals.{when}
use Rattle.rules.specs.declared.literal.Literal.{Literal}
use Rattle.rules.specs.declared.refusal.Refusal.TheVariants.{PairCount, FieldCount, DecisionAfterRule}
use Rattle.rules.specs.declared.row.Kind.{Kind}
use Rattle.rules.specs.declared.row.Kind.TheVariants.{Forbid, Activate, Price as Priced}
use Rattle.rendering.specs.Texts.{decision_line, head_fields, mark_text, pair_text, parts_line, spaced}
use Rattle.statements.specs.Fields.{field_fault, fields_of, first_bad, heads}
use Rattle.statements.specs.Forms.{mark_of}
use Rattle.statements.specs.Lines.{TextLine, is_decision, kind_by, kind_of}
use Rattle.statements.specs.Statements.{Stated, decides, fault, front, past, read_activate, read_as, read_decision, read_fields, read_forbid, read_line, read_pairs, read_price, ruled, rules, unless}
use Rattle.statements.specs.declared.line.LineKind.{LineKind}
use Rattle.statements.specs.declared.line.LineKind.TheVariants.{Decision as D, Forbid as F, Activate as A, Price as P}
use Rattle.rules.proofs.Recomposing.{free_price}
use Rattle.grammar.specs.Grammar.{fitting, fitting_head, fitting_pairs, is_decided, line_text}
use Rattle.grammar.specs.Laws.{ReadsOnlyText, TextIsRead}
use Rattle.rules.proofs.Grounds.{when_none, option_or_none}
use Rattle.grammar.proofs.Forms.{decimal_only, decimal_read, mapped_none, mark_only, mark_read, Solid, solid_decimal, solid_mark, solid_pairs, pairs_only, pairs_read, then_formed, then_ok, unless_ok}
use Rattle.grammar.proofs.Joins.{Lacks, cut_spaced, spaced_pieces}

-- the byte that a line of a kind begins with
abbrev pub byte_of : LineKind → ℕ
byte_of D = 68
byte_of F = 70
byte_of A = 65
byte_of P = 80

-- the kind of the line that states a rule, and of one that states s
abbrev pub rule_kind : Kind → LineKind
rule_kind Forbid = F
rule_kind Activate = A
rule_kind Priced = P

abbrev pub stated_kind : Stated → LineKind
stated_kind (decides d) = D
stated_kind (rules k ps target price) = rule_kind k

-- the fields of the line that states s
abbrev pub stated_fields : Stated → List (List ℕ)
stated_fields (decides d) = decimal d.size ∷ mark_text d.on ∷ []
stated_fields (rules k ps target price) = head_fields k target price ++ map pair_text ps

pub line_fields : (s : Stated) → line_text s ≡ byte_of (stated_kind s) ∷ spaced (stated_fields s)
unfolding decision_line parts_line
line_fields (decides d) = refl
line_fields (rules Forbid ps target price) = refl
line_fields (rules Activate ps target price) = refl
line_fields (rules Priced ps target price) = refl

-- the kind of a line is that of its first byte, and its fields stand behind
kind_byte : (b : ℕ) (k : LineKind) → kind_by b ≡ Some k → b ≡ byte_of k
kind_byte b k e = grind (arith, common_steps)

kind_read : (k : LineKind) → kind_by (byte_of k) ≡ Some k
kind_read D = refl
kind_read F = refl
kind_read A = refl
kind_read P = refl

line_only : (line : List ℕ) (k : LineKind) → kind_of line ≡ Some k → line ≡ byte_of k ∷ spaced (fields_of line)
line_only [] k e = cc
line_only (x ∷ []) k e = cc
line_only (x ∷ y ∷ ys) k e = grind (arith, common_steps, kind_byte, spaced_pieces, left_within)

line_kind : (k : LineKind) (fs : List (List ℕ)) → 1 ≤ length fs → kind_of (byte_of k ∷ spaced fs) ≡ Some k
line_kind k [] h = absurd (omega arith)
line_kind k (f ∷ fs) h = kind_read k

line_cut : (b : ℕ) (fs : List (List ℕ)) → 1 ≤ length fs → AllByRecursion (Lacks 32) fs → fields_of (b ∷ spaced fs) ≡ fs
line_cut b [] h lacks = absurd (omega arith)
line_cut b (f ∷ fs) h lacks = left_within 32 (b ∷ 32 ∷ (f ++ spaced fs)) 2 (omega arith) ∙ cut_spaced f fs lacks.0 lacks.1

-- how fields that are read begin
one_field : (fs : List (List ℕ)) → 1 ≤ length fs → fs ≡ front fs ∷ drop 1 fs
one_field [] h = absurd (omega arith)
one_field (f ∷ fs) h = refl

two_fields : (fs : List (List ℕ)) → 2 ≤ length fs → fs ≡ front fs ∷ front (drop 1 fs) ∷ drop 1 (drop 1 fs)
two_fields [] h = absurd (omega arith)
two_fields (f ∷ []) h = absurd (omega arith)
two_fields (f ∷ g ∷ gs) h = refl

-- a decision has no third field
no_third : (fs : List (List ℕ)) → first_bad D 0 3 fs ≡ None → drop 1 (drop 1 fs) ≡ []
unfolding first_bad
no_third [] e = refl
no_third (f ∷ []) e = refl
no_third (f ∷ g ∷ []) e = refl
no_third (f ∷ g ∷ h ∷ hs) e = grind (arith, common_steps)

-- a statement that the fields of a line of a kind are
pub record States (k : LineKind) (fs : List (List ℕ)) (s : Stated) : Type 0 where
  pub kind : stated_kind s ≡ k
  pub fields : fs ≡ stated_fields s
  pub fits : fitting s ≡ true

ruled_only : (n : ℕ) (k : Kind) (ps : List Literal) (target : ℕ) (price : Price) (s : Stated) → ruled n k ps target price ≡ Ok s → ((leb 1 (length ps) && leb (length ps) 4) ≡ true) × (rules k ps target price ≡ s)
ruled_only n k ps target price s e = grind (arith, common_steps)

decision_only : (n : ℕ) (fs : List (List ℕ)) (s : Stated) → first_bad D 0 3 fs ≡ None → 2 ≤ length fs → read_decision n 3 fs ≡ Ok s → States D fs s
unfolding read_decision
decision_only n fs s good h e =
    let size = then_formed n 3 (number_up_to 255 (front fs)) _ s e in
    let mark = then_formed n (past 3 fs) (mark_of (front (drop 1 fs))) _ s size.1.1 in
    let d = decimal_only 255 size.0 (front fs) (omega arith) size.1.0 in
    let same : decides (record { size = size.0; on = mark.0 }) ≡ s = cc mark.1.1 in
    subst (States D fs) same (record {
      kind = refl;
      fields = two_fields fs h
          ∙ ap (λ (f : List ℕ). f ∷ front (drop 1 fs) ∷ drop 1 (drop 1 fs)) d.0
          ∙ ap (λ (f : List ℕ). decimal size.0 ∷ f ∷ drop 1 (drop 1 fs)) (mark_only (front (drop 1 fs)) mark.0 mark.1.0)
          ∙ ap (λ (gs : List (List ℕ)). decimal size.0 ∷ mark_text mark.0 ∷ gs) (no_third fs good);
      fits = d.1;
    })

forbid_only : (n : ℕ) (fs : List (List ℕ)) (s : Stated) → read_forbid n 3 fs ≡ Ok s → States F fs s
unfolding read_forbid
forbid_only n fs s e =
    let pairs = then_ok (read_pairs n 3 fs) _ s e in
    let ps = pairs_only n 3 fs pairs.0 pairs.1.0 in
    let r = ruled_only n Forbid pairs.0 0 free s pairs.1.1 in
    subst (States F fs) r.1 (record { kind = refl; fields = ps.0; fits = and_from _ _ r.0 (and_from _ _ ps.1 refl) })

activate_only : (n : ℕ) (fs : List (List ℕ)) (s : Stated) → 1 ≤ length fs → read_activate n 3 fs ≡ Ok s → States A fs s
unfolding read_activate
activate_only n fs s h e =
    let target = then_formed n 3 (number_up_to 255 (front fs)) _ s e in
    let pairs = then_ok (read_pairs n (past 3 fs) (drop 1 fs)) _ s target.1.1 in
    let t = decimal_only 255 target.0 (front fs) (omega arith) target.1.0 in
    let ps = pairs_only n (past 3 fs) (drop 1 fs) pairs.0 pairs.1.0 in
    let r = ruled_only n Activate pairs.0 target.0 free s pairs.1.1 in
    subst (States A fs) r.1 (record {
      kind = refl;
      fields = one_field fs h ∙ ap (λ (f : List ℕ). f ∷ drop 1 fs) t.0 ∙ ap (λ (gs : List (List ℕ)). decimal target.0 ∷ gs) ps.0;
      fits = and_from _ _ r.0 (and_from _ _ ps.1 (and_from _ _ t.1 refl));
    })

price_only : (n : ℕ) (fs : List (List ℕ)) (s : Stated) → 2 ≤ length fs → read_price n 3 fs ≡ Ok s → States P fs s
unfolding read_price
price_only n fs s h e =
    let tier = then_formed n 3 (number_up_to 255 (front fs)) _ s e in
    let cents = then_formed n (past 3 fs) (number_up_to 4294967295 (front (drop 1 fs))) _ s tier.1.1 in
    let pairs = then_ok (read_pairs n (past (past 3 fs) (drop 1 fs)) (drop 1 (drop 1 fs))) _ s cents.1.1 in
    let t = decimal_only 255 tier.0 (front fs) (omega arith) tier.1.0 in
    let c = decimal_only 4294967295 cents.0 (front (drop 1 fs)) (omega arith) cents.1.0 in
    let ps = pairs_only n (past (past 3 fs) (drop 1 fs)) (drop 1 (drop 1 fs)) pairs.0 pairs.1.0 in
    let r = ruled_only n Priced pairs.0 0 (record { tier = tier.0; cents = cents.0 }) s pairs.1.1 in
    subst (States P fs) r.1 (record {
      kind = refl;
      fields = two_fields fs h
          ∙ ap (λ (f : List ℕ). f ∷ front (drop 1 fs) ∷ drop 1 (drop 1 fs)) t.0
          ∙ ap (λ (f : List ℕ). decimal tier.0 ∷ f ∷ drop 1 (drop 1 fs)) c.0
          ∙ ap (λ (gs : List (List ℕ)). decimal tier.0 ∷ decimal cents.0 ∷ gs) ps.0;
      fits = and_from _ _ r.0 (and_from _ _ ps.1 (and_from _ _ t.1 c.1));
    })

fields_only : (k : LineKind) (n : ℕ) (fs : List (List ℕ)) (s : Stated) → first_bad k 0 3 fs ≡ None → heads k ≤ length fs → read_fields k n fs ≡ Ok s → States k fs s
fields_only D n fs s good h e = decision_only n fs s good h e
fields_only F n fs s good h e = forbid_only n fs s e
fields_only A n fs s good h e = activate_only n fs s h e
fields_only P n fs s good h e = price_only n fs s h e

-- a line that is read is the text of what it states
decided_kind : (s : Stated) → is_decision (stated_kind s) ≡ is_decided s
decided_kind (decides d) = refl
decided_kind (rules Forbid ps target price) = refl
decided_kind (rules Activate ps target price) = refl
decided_kind (rules Priced ps target price) = refl

kind_only : (began : Bool) (l : TextLine) (s : Stated) (o : Option LineKind) → kind_of l.bytes ≡ o → read_as began l o ≡ Ok s → (l.bytes ≡ line_text s) × (l.ended ≡ true) × (fitting s ≡ true) × ((began && is_decided s) ≡ false)
kind_only began l s None k e = cc
kind_only began l s (Some kind) k e =
    let early = unless_ok (when (began && is_decision kind) (fault DecisionAfterRule l.number 1)) _ s e in
    let whole = unless_ok (option_map (fault FieldCount l.number) (field_fault kind l.ended l.bytes)) _ s early.1 in
    let faultless = option_or_none (first_bad kind 0 3 (fields_of l.bytes)) _ (mapped_none (fault FieldCount l.number) (field_fault kind l.ended l.bytes) whole.0) in
    let enough = or_parts (ltb (length (fields_of l.bytes)) (heads kind)) (not l.ended) (when_none _ _ faultless.1) in
    let stated = fields_only kind l.number (fields_of l.bytes) s faultless.0 (ltb-false _ (heads kind) enough.0) whole.1 in (
      line_only l.bytes kind k
          ∙ ap (λ (fs : List (List ℕ)). byte_of kind ∷ spaced fs) stated.fields
          ∙ ap (λ (j : LineKind). byte_of j ∷ spaced (stated_fields s)) (sym stated.kind)
          ∙ sym (line_fields s),
      not-false l.ended enough.1,
      stated.fits,
      ap (λ (t : Bool). began && t) (sym (decided_kind s) ∙ ap is_decision stated.kind) ∙ when_none _ _ early.0,
    )

pub reads_only_text : ReadsOnlyText
unfolding read_line
reads_only_text began l s e = kind_only began l s (kind_of l.bytes) refl e

-- the text of what fits is read: its fields are read one by one
ruled_read : (n : ℕ) (k : Kind) (ps : List Literal) (target : ℕ) (price : Price) → (leb 1 (length ps) && leb (length ps) 4) ≡ true → ruled n k ps target price ≡ Ok (rules k ps target price)
ruled_read n k ps target price h = ap (λ (t : Bool). unless (when (not t) (fault PairCount n 1)) (Ok (rules k ps target price))) h

fields_read : (s : Stated) → fitting s ≡ true → (n : ℕ) → read_fields (stated_kind s) n (stated_fields s) ≡ Ok s
unfolding read_decision read_forbid read_activate read_price
fields_read (decides d) h n = grind (arith, common_steps, decimal_read, mark_read)
fields_read (rules Forbid ps target price) h n = grind (arith, common_steps, pairs_read, ruled_read, free_price)
fields_read (rules Activate ps target price) h n = grind (arith, common_steps, decimal_read, pairs_read, ruled_read, free_price)
fields_read (rules Priced ps target price) h n = grind (arith, common_steps, decimal_read, pairs_read, ruled_read)

-- every field is there, and none of them is empty
solid_head : (b : ℕ) → b < 48 → (k : Kind) (target : ℕ) (price : Price) → fitting_head k target price ≡ true → AllByRecursion (Solid b) (head_fields k target price)
solid_head b low Forbid target price h = tt
solid_head b low Activate target price h = (solid_decimal b low 255 target (omega arith) (and_parts (leb target 255) _ h).0, tt)
solid_head b low Priced target price h =
    let fit = and_parts (leb price.tier 255) (leb price.cents 4294967295) (and_parts (eqb target 0) _ h).1 in
    (solid_decimal b low 255 price.tier (omega arith) fit.0, (solid_decimal b low 4294967295 price.cents (omega arith) fit.1, tt))

pub solid_fields : (b : ℕ) → b < 48 → (s : Stated) → fitting s ≡ true → AllByRecursion (Solid b) (stated_fields s)
solid_fields b low (decides d) h = (solid_decimal b low 255 d.size (omega arith) h, (solid_mark b low d.on, tt))
solid_fields b low (rules k ps target price) h =
    let fit = and_parts (fitting_pairs ps) (fitting_head k target price) (and_parts (leb 1 (length ps) && leb (length ps) 4) _ h).1 in
    All-append (Solid b) (head_fields k target price) (map pair_text ps) (solid_head b low k target price fit.1) (solid_pairs b low ps fit.0)

enough_fields : (s : Stated) → heads (stated_kind s) ≤ length (stated_fields s)
enough_fields (decides d) = omega arith
enough_fields (rules Forbid ps target price) = omega arith
enough_fields (rules Activate ps target price) = omega arith
enough_fields (rules Priced ps target price) = omega arith

some_field : (s : Stated) → fitting s ≡ true → 1 ≤ length (stated_fields s)
some_field (decides d) h = omega arith
some_field (rules k ps target price) h = grind (arith, common_steps)

rule_faultless : (k : Kind) (n c : ℕ) (fs : List (List ℕ)) → AllByRecursion (λ f. is_nil f ≡ false) fs → first_bad (rule_kind k) n c fs ≡ None
unfolding first_bad
rule_faultless k n c [] h = refl
rule_faultless k n c (f ∷ fs) h = grind (arith, common_steps, rule_faultless k (n + 1) (c + length f + 1) fs h.1)

faultless : (s : Stated) → AllByRecursion (λ f. is_nil f ≡ false) (stated_fields s) → first_bad (stated_kind s) 0 3 (stated_fields s) ≡ None
unfolding first_bad
faultless (decides d) h = grind (arith, common_steps)
faultless (rules k ps target price) h = rule_faultless k 0 3 (head_fields k target price ++ map pair_text ps) h

-- so the whole line is read
module _ (s : Stated) (h : fitting s ≡ true) where
  solid_line : AllByRecursion (Solid 32) (stated_fields s)
  solid_line = solid_fields 32 (omega arith) s h

  fields_of_text : fields_of (line_text s) ≡ stated_fields s
  fields_of_text =
      ap fields_of (line_fields s)
      ∙ line_cut (byte_of (stated_kind s)) (stated_fields s) (some_field s h) (All-weaker (Solid 32) (Lacks 32) (λ f solid. solid.0) (stated_fields s) solid_line)

  kind_of_text : kind_of (line_text s) ≡ Some (stated_kind s)
  kind_of_text = ap kind_of (line_fields s) ∙ line_kind (stated_kind s) (stated_fields s) (some_field s h)

  text_faultless : field_fault (stated_kind s) true (line_text s) ≡ None
  text_faultless =
      ap (λ (fs : List (List ℕ)). option_or (first_bad (stated_kind s) 0 3 fs) (when (ltb (length fs) (heads (stated_kind s)) || false) (length (line_text s) + 1))) fields_of_text
      ∙ ap (λ (o : Option ℕ). option_or o (when (ltb (length (stated_fields s)) (heads (stated_kind s)) || false) (length (line_text s) + 1)))
      (faultless s (All-weaker (Solid 32) (λ f. is_nil f ≡ false) (λ f solid. solid.1) (stated_fields s) solid_line))
      ∙ ap (λ (t : Bool). when t (length (line_text s) + 1)) (or_from _ _ (le-ltb (length (stated_fields s)) (heads (stated_kind s)) (enough_fields s)) refl)

pub text_is_read : TextIsRead
unfolding read_line
text_is_read s h began early n = grind (arith, common_steps, kind_of_text, decided_kind, text_faultless, fields_of_text, fields_read)
