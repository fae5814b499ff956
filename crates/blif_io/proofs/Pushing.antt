-- What is pushed to a text is a line, a statement, a file.
use Rattle.std.proofs.Common.{◌≡◌, ℕ, zero, suc, ◌≤◌, List, [], ◌∷◌, ◌++◌, map, length, take, codes, Some, refl, sym, ap, ◌∙◌, subst, append_assoc}
use Rattle.std.specs.List.{flat_map}
use Rattle.std.proofs.lemmas.List.{append-nil, length-map}
use Rattle.std.proofs.lemmas.Grind.{flat_map-append}
use Rattle.table.specs.Written.{plane_at, line_at, lines_of}
use Rattle.table.specs.declared.shape.Table.{Table}
use Rattle.table.proofs.Rewritten.{cut-plane}
use Rattle.netlist.specs.Netlist.{Driver, pins_of}
use Rattle.netlist.specs.Netlist as net
use Rattle.editor.specs.Questions.{HasTable}
use Rattle.blif_io.specs.declared.calls.Listing.{Listing}
use Rattle.blif_io.specs.declared.calls.Listing.TheVariants as kind
use Rattle.blif.specs.Statement.{Name, Words, Statement, names, cover_words}
use Rattle.blif.specs.Description.{name_of}
use Rattle.blif.specs.Written.{listing, gate_statement, lines_of_statement, lines_of_file, spelled_line, spelled_names, spelled}
use Rattle.blif_io.specs.Writing.{spelled_statements, keyword_of, listing_of}
use Rattle.blif_io.proofs.Listing.{line-is, statements-join, one-statement}

-- ---- lines

-- a word, others behind a blank each, and byte 10
pub word_line : (out a b c : List ℕ) (w : List ℕ) (ws : Words) → a ≡ out ++ w → b ≡ a ++ spelled_names ws → c ≡ b ++ 10 ∷ [] → c ≡ out ++ spelled_line (w ∷ ws)
word_line out a b c w ws ea eb ec =
    ec ∙ ap (λ l. l ++ 10 ∷ []) (eb ∙ ap (λ l. l ++ spelled_names ws) ea ∙ append_assoc out w (spelled_names ws)) ∙ append_assoc out (w ++ spelled_names ws) (10 ∷ [])
    ∙ ap (λ l. out ++ l) (sym (line-is w ws))

-- further words
pub more_words : (a b c : List ℕ) (xs ys : Words) → b ≡ a ++ spelled_names xs → c ≡ b ++ spelled_names ys → c ≡ a ++ spelled_names (xs ++ ys)
more_words a b c xs ys eb ec =
    ec ∙ ap (λ l. l ++ spelled_names ys) eb ∙ append_assoc a (spelled_names xs) (spelled_names ys) ∙ ap (λ l. a ++ l) (sym (flat_map-append (λ x. 32 ∷ x) xs ys))

-- a word of one byte
pub one_byte : (a b c : List ℕ) (x y : ℕ) → b ≡ a ++ 32 ∷ [] → c ≡ b ++ x ∷ [] → x ≡ y → c ≡ a ++ spelled_names ((y ∷ []) ∷ [])
one_byte a b c x y eb ec e =
    ec ∙ ap (λ l. l ++ x ∷ []) eb ∙ append_assoc a (32 ∷ []) (x ∷ []) ∙ ap (λ z. a ++ spelled_names ((z ∷ []) ∷ [])) e

-- the line of a minterm of a gate with pins
pub minterm_line : (pins m : ℕ) (bytes : List ℕ) → (pins ≡ 0 → ⊥) → pins ≤ 4 → bytes ≡ plane_at 4 m → take pins bytes ∷ codes "1" ∷ [] ≡ cover_words pins (line_at pins m)
minterm_line zero m bytes some few e = absurd (some refl)
minterm_line (suc k) m bytes some few e = ap (λ l. l.plane ∷ l.output ∷ []) (cut-plane (suc k) m bytes few e)

-- ---- statements

mapped-some : (f : ℕ → Name) (xs : List ℕ) → (xs ≡ [] → ⊥) → map f xs ≡ [] → ⊥
mapped-some f [] some e = some refl
mapped-some f (x ∷ xs) some e = absurd (cc)

listing-line : (l : Listing) (ws : List Name) → (ws ≡ [] → ⊥) → spelled_line (keyword_of l ∷ ws) ≡ spelled_statements (listing (listing_of l) ws)
listing-line l [] some = absurd (some refl)
listing-line kind.Inputs (w ∷ ws) some = sym (append-nil (spelled_line (codes ".inputs" ∷ w ∷ ws)))
listing-line kind.Outputs (w ∷ ws) some = sym (append-nil (spelled_line (codes ".outputs" ∷ w ∷ ws)))

pub listing_spelled : (l : Listing) (f : ℕ → Name) (xs : List ℕ) (before after : List ℕ) → (xs ≡ [] → ⊥) → after ≡ before ++ spelled_line (keyword_of l ∷ map f xs)
    → after ≡ before ++ spelled_statements (listing (listing_of l) (map f xs))
listing_spelled l f xs before after some e = e ∙ ap (λ t. before ++ t) (listing-line l (map f xs) (mapped-some f xs some))

-- the first line of a gate, and those of its cover
pub gate_spelled : (ns : List Name) (s : ℕ) (d : Driver) (t : Table) (nets before mid after : List ℕ) → HasTable d (Some t) → nets ≡ pins_of d
    → mid ≡ before ++ spelled_line (codes ".names" ∷ (map (name_of ns) nets ++ name_of ns s ∷ [])) → after ≡ mid ++ spelled (map (cover_words t.pins) (lines_of t.pins t.bits))
    → after ≡ before ++ spelled_statements (gate_statement ns s d)
gate_spelled ns s net.absent t nets before mid after told is first cover = absurd (cc)
gate_spelled ns s net.input t nets before mid after told is first cover = absurd (cc)
gate_spelled ns s (net.latch start pin) t nets before mid after told is first cover = absurd (cc)
gate_spelled ns s (net.gate table pins) t nets before mid after told is first cover =
    let head : Words = codes ".names" ∷ (map (name_of ns) pins ++ name_of ns s ∷ []) in
    let mid' : mid ≡ before ++ spelled_line head = subst (λ l. mid ≡ before ++ spelled_line (codes ".names" ∷ (map (name_of ns) l ++ name_of ns s ∷ []))) is first in
    let cover' : after ≡ mid ++ spelled (map (cover_words (length pins)) (lines_of (length pins) table)) =
    subst (λ b. after ≡ mid ++ spelled (map (cover_words (length pins)) (lines_of (length pins) b))) told.0
    (subst (λ k. after ≡ mid ++ spelled (map (cover_words k) (lines_of k t.bits))) told.1 cover) in
    let statement : Statement = names (map (name_of ns) pins) (name_of ns s) (lines_of (length pins) table) in
    let same : length (map (name_of ns) pins) ≡ length pins = length-map pins (name_of ns) in
    cover' ∙ ap (λ l. l ++ spelled (map (cover_words (length pins)) (lines_of (length pins) table))) mid'
    ∙ append_assoc before (spelled_line head) (spelled (map (cover_words (length pins)) (lines_of (length pins) table)))
    ∙ ap (λ k. before ++ (spelled_line head ++ spelled (map (cover_words k) (lines_of (length pins) table)))) (sym same) ∙ ap (λ l. before ++ l) (sym (one-statement statement))

-- ---- the file

pub file_spelled : (model : Name) (a b c d : List Statement) (t0 t1 t2 t3 t4 t5 t6 : List ℕ) → t0 ≡ [] → t1 ≡ t0 ++ spelled_line (codes ".model" ∷ model ∷ []) → t2 ≡ t1 ++ spelled_statements a
    → t3 ≡ t2 ++ spelled_statements b → t4 ≡ t3 ++ spelled_statements c → t5 ≡ t4 ++ spelled_statements d → t6 ≡ t5 ++ spelled_line (codes ".end" ∷ [])
    → t6 ≡ spelled (lines_of_file model (a ++ b ++ c ++ d))
file_spelled model a b c d t0 t1 t2 t3 t4 t5 t6 e0 e1 e2 e3 e4 e5 e6 =
    let all = a ++ b ++ c ++ d in
    let top = spelled_line (codes ".model" ∷ model ∷ []) in
    let end = spelled_line (codes ".end" ∷ []) in
    let body : spelled_statements all ≡ spelled_statements a ++ spelled_statements b ++ spelled_statements c ++ spelled_statements d =
    statements-join (a ++ b ++ c) d ∙ ap (λ l. l ++ spelled_statements d) (statements-join (a ++ b) c ∙ ap (λ l. l ++ spelled_statements c) (statements-join a b)) in
    let s2 : t2 ≡ top ++ spelled_statements a = e2 ∙ ap (λ l. l ++ spelled_statements a) (e1 ∙ ap (λ l. l ++ top) e0) in
    let s3 : t3 ≡ top ++ (spelled_statements a ++ spelled_statements b) = e3 ∙ ap (λ l. l ++ spelled_statements b) s2 ∙ append_assoc top (spelled_statements a) (spelled_statements b) in
    let s4 : t4 ≡ top ++ (spelled_statements a ++ spelled_statements b ++ spelled_statements c) =
    e4 ∙ ap (λ l. l ++ spelled_statements c) s3 ∙ append_assoc top (spelled_statements a ++ spelled_statements b) (spelled_statements c) in
    let s5 : t5 ≡ top ++ spelled_statements all =
    e5 ∙ ap (λ l. l ++ spelled_statements d) s4 ∙ append_assoc top (spelled_statements a ++ spelled_statements b ++ spelled_statements c) (spelled_statements d) ∙ ap (λ l. top ++ l) (sym body) in
    e6 ∙ ap (λ l. l ++ end) s5 ∙ append_assoc top (spelled_statements all) end
    ∙ ap (λ l. top ++ l) (ap (λ l. spelled_statements all ++ l) (sym (append-nil end)) ∙ sym (flat_map-append spelled_line (flat_map lines_of_statement all) ((codes ".end" ∷ []) ∷ [])))
