-- A chain of links that runs upward.
use Rattle.std.specs.Prelude.{ℕ, zero, suc, min, cond, List, [], ◌∷◌, length, nat_lt, slice_index_or}
use Rattle.reach_cases.specs.declared.link.Chain.{Chain}
use Rattle.reach_cases.specs.declared.link.Link.{Link}

-- no link: the edge behind the last
abbrev pub end : ℕ
end = 4294967295

-- a link that does not lead upward ends its chain
abbrev pub behind : ℕ → ℕ → ℕ
behind edge next = cond (nat_lt edge next) next end

abbrev pub link_at : List Link → ℕ → Link
link_at links edge = slice_index_or links edge (record { to = 0; next = 0 })

-- the numbers that a chain leads to, from an edge on, in at most n links
unfoldable pub chain : List Link → ℕ → ℕ → List ℕ
chain links zero edge = []
chain links (suc n) edge =
    cond (nat_lt edge (min (length links) end)) ((link_at links edge).to ∷ chain links n (behind edge (link_at links edge).next)) []

-- all that a chain leads to from an edge on
abbrev pub rest_of : List Link → ℕ → List ℕ
rest_of links edge = chain links (min (length links) end) edge

-- the first link of a number
abbrev pub first_of : List Chain → ℕ → ℕ
first_of chains x = (slice_index_or chains x (record { first = end; last = end })).first
