-- Whole texts: a text is its lines, and the lines of statements are cut apart again.
use Rattle.std.proofs.lemmas.Grind.{common_steps}
use Rattle.std.proofs.Common.{◌≡◌, ℕ, ◌+◌, ◌≤◌, true, false, List, [], ◌∷◌, ◌++◌, map, sym, refl, ap, ◌∙◌, subst, append_assoc, arith}
use Rattle.std.specs.List.{AllByRecursion}
use Rattle.std.proofs.ByRecursion.{All-weaker}
use Rattle.std.proofs.lemmas.List.{append_cancel_right}
use Rattle.std.proofs.lemmas.Bool.{and_parts, false≢true, true≢false}
use Rattle.reading.specs.Pieces.{is_nil, pieces}
use Rattle.rendering.specs.Texts.{ended, spaced}
use Rattle.statements.specs.Lines.{TextLine, numbered}
use Rattle.statements.specs.Statements.{Stated}
use Rattle.statements.specs.declared.line.LineKind.{LineKind}
use Rattle.statements.specs.declared.line.LineKind.TheVariants.{Decision as D, Forbid as F, Activate as A, Price as P}
use Rattle.grammar.specs.Grammar.{all_ended, all_fitting, ended_lines, fitting, line_text}
use Rattle.grammar.specs.Laws.{LinesOfText, TextOfLines}
use Rattle.grammar.proofs.Forms.{Solid}
use Rattle.reading.proofs.Cuts.{pieces_some}
use Rattle.grammar.proofs.Joins.{Lacks, closed_pieces, cut_closed, ended_closed, lacks_more, lacks_spaced}
use Rattle.grammar.proofs.Lines.{byte_of, line_fields, solid_fields, stated_fields, stated_kind}

-- the line of a statement that fits has no byte 10
high_byte : (k : LineKind) → 48 ≤ byte_of k
high_byte D = omega arith
high_byte F = omega arith
high_byte A = omega arith
high_byte P = omega arith

pub line_lacks : (s : Stated) → fitting s ≡ true → Lacks 10 (line_text s)
line_lacks s h =
    let lack = All-weaker (Solid 10) (Lacks 10) (λ f solid. solid.0) (stated_fields s) (solid_fields 10 (omega arith) s h) in
    subst (Lacks 10) (sym (line_fields s))
    (lacks_more 10 (byte_of (stated_kind s)) (spaced (stated_fields s)) (λ (e : byte_of (stated_kind s) ≡ 10). omega (arith, high_byte (stated_kind s)))
    (lacks_spaced 10 (stated_fields s) (λ e. omega arith) lack))

lines_lack : (ss : List Stated) → all_fitting ss ≡ true → AllByRecursion (Lacks 10) (map line_text ss)
lines_lack [] h = tt
lines_lack (s ∷ ss) h = let fit = and_parts (fitting s) (all_fitting ss) h in (line_lacks s fit.0, lines_lack ss fit.1)

-- a piece with another behind it is a line that is ended
numbered_more : (n : ℕ) (p : List ℕ) (ps : List (List ℕ)) → is_nil ps ≡ false → numbered n (p ∷ ps) ≡ record { bytes = p; number = n; ended = true } ∷ numbered (n + 1) ps
unfolding numbered
numbered_more n p ps h = grind (arith, common_steps)

-- lines without byte 10, each ended by it, are cut apart again
numbered_ended : (n : ℕ) (ls : List (List ℕ)) → numbered n (ls ++ [] ∷ []) ≡ ended_lines n ls
unfolding numbered
numbered_ended n [] = refl
numbered_ended n (l ∷ ls) = grind (arith, common_steps, numbered_ended (n + 1) ls)

pub lines_from : (n : ℕ) (ls : List (List ℕ)) → AllByRecursion (Lacks 10) ls → numbered n (pieces 10 (ended ls)) ≡ ended_lines n ls
lines_from n ls h = ap (λ (t : List ℕ). numbered n (pieces 10 t)) (ended_closed ls) ∙ ap (numbered n) (cut_closed 10 ls h) ∙ numbered_ended n ls

pub lines_of_text : LinesOfText
lines_of_text ss h = lines_from 1 (map line_text ss) (lines_lack ss h)

-- where all lines are ended, nothing stands behind the last
ended_numbered : (n : ℕ) (ps : List (List ℕ)) → is_nil ps ≡ false → all_ended (numbered n ps) ≡ true → ended ps ≡ ended (map (λ (l : TextLine). l.bytes) (numbered n ps)) ++ 10 ∷ []
unfolding numbered
ended_numbered n [] some h = absurd (true≢false some)
ended_numbered n ([] ∷ []) some h = refl
ended_numbered n ((x ∷ xs) ∷ []) some h = absurd (false≢true h)
ended_numbered n (p ∷ q ∷ qs) some h =
    let more = numbered_more n p (q ∷ qs) refl in
    let rest = ended_numbered (n + 1) (q ∷ qs) refl (sym (ap all_ended more) ∙ h) in
    ap (λ (t : List ℕ). p ++ 10 ∷ t) rest
    ∙ sym (append_assoc p (10 ∷ ended (map (λ (l : TextLine). l.bytes) (numbered (n + 1) (q ∷ qs)))) (10 ∷ []))
    ∙ ap (λ (ts : List TextLine). ended (map (λ (l : TextLine). l.bytes) ts) ++ 10 ∷ []) (sym more)

text_from : (n : ℕ) (text : List ℕ) → all_ended (numbered n (pieces 10 text)) ≡ true → text ≡ ended (map (λ (l : TextLine). l.bytes) (numbered n (pieces 10 text)))
text_from n text h =
    append_cancel_right text (ended (map (λ (l : TextLine). l.bytes) (numbered n (pieces 10 text)))) (10 ∷ [])
    (sym (closed_pieces 10 text) ∙ sym (ended_closed (pieces 10 text)) ∙ ended_numbered n (pieces 10 text) (pieces_some 10 text) h)

pub text_of_lines : TextOfLines
text_of_lines text h = text_from 1 text h
