-- Gates that are stated below the gates that feed them stand below them in the lines of the file.
use Rattle.std.proofs.Common.{◌≡◌, ℕ, ◌-◌, true, false, List, [], ◌∷◌, ◌++◌, map, length, codes, take, drop, sym, refl, ap, ◌∙◌, subst, ⊎_elim, append_assoc, arith, length-append}
use Rattle.std.specs.List.{flat_map, AllByRecursion}
use Rattle.std.specs.Str.{bytes_eq}
use Rattle.std.specs.Cmp.Lexicographic.{bytes_decides}
use Rattle.std.proofs.lemmas.Bool.{cases_Bool, cond-false}
use Rattle.std.proofs.Math.Seq.{take-append_seam, drop-append_seam}
use Rattle.table.specs.Line.{Line, Formed}
use Rattle.blif.specs.Statement.{Name, Words, Statement, inputs, outputs, latch, names, cover_words, Writes, WriteAll, IsFile}
use Rattle.blif.specs.Rows.{dotted}
use Rattle.blif.specs.Description.{In}
use Rattle.blif.specs.Written.{gate_in, FedFromAbove}
use Rattle.blif.specs.Below.{pins_named, gate_named, GatesBelowFeeders}
use Rattle.blif.proofs.Following.{undotted}

-- a line that begins with no dot names no gate
unnamed : (ws : Words) → dotted ws ≡ false → (pins_named ws ≡ []) × (gate_named ws ≡ [])
unnamed [] d = (refl, refl)
unnamed (w ∷ ws) d =
    ⊎_elim (λ t. let e = (bytes_decides w (codes ".names")).0 t in let z : true ≡ false = sym (ap (λ v. dotted (v ∷ ws)) e) ∙ d in absurd (cc))
    (λ f. (cond-false (bytes_eq w (codes ".names")) (take (length ws - 1) ws) [] f, cond-false (bytes_eq w (codes ".names")) (drop (length ws - 1) ws) [] f))
    (cases_Bool (bytes_eq w (codes ".names")))

gate-line : (pins : List Name) (x : Name) → (pins_named (codes ".names" ∷ (pins ++ x ∷ [])) ≡ pins) × (gate_named (codes ".names" ∷ (pins ++ x ∷ [])) ≡ x ∷ [])
gate-line pins x =
    let e : length (pins ++ x ∷ []) - 1 ≡ length pins = omega (arith, length-append pins (x ∷ [])) in
    (ap (λ k. take k (pins ++ x ∷ [])) e ∙ take-append_seam pins (x ∷ []), ap (λ k. drop k (pins ++ x ∷ [])) e ∙ drop-append_seam pins (x ∷ []))

-- lines whose gates are those of statements, each below its feeders
abbrev Below : List Words → List Statement → Type 0
Below ls ss = GatesBelowFeeders ls × (flat_map gate_named ls ≡ flat_map gate_in ss)

below-cover : (k : ℕ) (cover : List Line) (ls : List Words) (ss : List Statement) → AllByRecursion (Formed k) cover → Below ls ss → Below (map (cover_words k) cover ++ ls) ss
below-cover k [] ls ss h b = b
below-cover k (line ∷ cover) ls ss h b =
    let r = below-cover k cover ls ss h.1 b in
    let u = unnamed (cover_words k line) (undotted k line h.0) in
    (((λ x i. absurd (subst (In x) u.0 i)), r.0), ap (λ l. l ++ flat_map gate_named (map (cover_words k) cover ++ ls)) u.1 ∙ r.1)

below-statement : (s : Statement) (ss : List Statement) (own rest : List Words) → Writes s own → FedFromAbove (s ∷ ss) → Below rest ss → Below (own ++ rest) (s ∷ ss)
below-statement (inputs xs) ss own rest w f b = subst (λ o. Below (o ++ rest) (inputs xs ∷ ss)) (sym w) (((λ x i. absurd i), b.0), b.1)
below-statement (outputs xs) ss own rest w f b = subst (λ o. Below (o ++ rest) (outputs xs ∷ ss)) (sym w) (((λ x i. absurd i), b.0), b.1)
below-statement (latch a x start) ss own rest w f b =
    ⊎_elim (λ e. subst (λ o. Below (o ++ rest) (latch a x start ∷ ss)) (sym e) (((λ x i. absurd i), b.0), b.1))
    (λ e. subst (λ o. Below (o ++ rest) (latch a x start ∷ ss)) (sym e.1) (((λ x i. absurd i), b.0), b.1)) w.1
below-statement (names pins x cover) ss own rest w f b =
    let c = below-cover (length pins) cover rest ss w.1.formed b in
    let g = gate-line pins x in
    let all : flat_map gate_named ((codes ".names" ∷ (pins ++ x ∷ [])) ∷ (map (cover_words (length pins)) cover ++ rest)) ≡ flat_map gate_in (names pins x cover ∷ ss) =
    ap (λ l. l ++ flat_map gate_named (map (cover_words (length pins)) cover ++ rest)) g.1 ∙ ap (λ l. x ∷ l) c.1 in
    subst (λ o. Below (o ++ rest) (names pins x cover ∷ ss)) (sym w.2) (((λ q i j. f.0 q (subst (In q) g.0 i) (subst (In q) all j)), c.0), all)

below-all : (ss : List Statement) (body end : List Words) → WriteAll ss body → FedFromAbove ss → Below end [] → Below (body ++ end) ss
below-all [] body end w f b = subst (λ l. Below (l ++ end) []) (sym w) b
below-all (s ∷ ss) body end w f b =
    subst (λ l. Below (l ++ end) (s ∷ ss)) (sym w.4)
    (subst (λ l. Below l (s ∷ ss)) (sym (append_assoc w.0 w.1 end)) (below-statement s ss w.0 (w.1 ++ end) w.2 f (below-all ss w.1 end w.3 f.1 b)))

pub file_below : (ls : List Words) (model : Name) (ss : List Statement) → IsFile ls model ss → FedFromAbove ss → GatesBelowFeeders ls
file_below ls model ss file fed =
    subst GatesBelowFeeders (sym file.whole) ((λ x i. absurd i), (below-all ss file.body ((codes ".end" ∷ []) ∷ []) file.writes fed (((λ x i. absurd i), tt), refl)).0)
