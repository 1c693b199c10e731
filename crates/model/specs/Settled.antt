-- "A search that gives up early": what is settled in a prefix, spoiled prefixes, and the prefixes that the second engine visits.
use Rattle.std.specs.Prelude.{ℕ, Bool, ◌&&◌, not, List, length, take, eqb}
use Rattle.lists.specs.Below.{every, below}
use Rattle.lists.specs.Lists.{any, before, last_or}
use Rattle.table.specs.declared.Table.{Table}
use Rattle.table.specs.Events.{event, location, reads, writes, same_location, po}
use Rattle.prefixes.specs.Answer.{Answer}
use Rattle.model.specs.Rules.{initially}
use Rattle.model.specs.Returns.{written_value}
use Rattle.model.specs.Witness.{stated_outcome}
use Rattle.model.specs.Prefixes.{clean, prefixes_by, search_by}

-- w is an "earlier writer to that location" of the reader's hart "that isn't listed before the reader"
unfoldable pub unlisted_own : Table → List ℕ → ℕ → ℕ → Bool
unlisted_own t p r w = writes t w && same_location t w r && po t w r && not (before p w r)

-- w is a "writer to it listed before the reader"
unfoldable pub listed_writer : Table → List ℕ → ℕ → ℕ → Bool
listed_writer t p r w = writes t w && same_location t w r && before p w r

-- "In a clean prefix, a listed reader's return is settled: from its hart's latest earlier writer to that location that isn't
-- listed before the reader, if there is one; otherwise from the last writer to it listed before the reader, or the initial
-- write."
unfoldable pub settled : Table → List ℕ → ℕ → ℕ
settled t p r = last_or (unlisted_own t p r) (last_or (listed_writer t p r) initially p) (below t.count)

-- the settled value of the reader r "differs from the stated one"
unfoldable pub misreads : Table → List ℕ → ℕ → Bool
misreads t p r = reads t r && not (eqb (written_value t (location t r) (settled t p r)) (event t r).read)

-- "The prefix is spoiled if a settled value differs from the stated one": it is value-inconsistent, and so is every order that
-- begins with it
unfoldable pub spoiled : Table → List ℕ → Bool
spoiled t p = any (misreads t p) p

-- "only those clean prefixes none of whose proper prefixes is spoiled": so that the search prunes what extends a spoiled prefix,
-- and not the prefix itself
unfoldable pub unpruned : Table → List ℕ → Bool
unpruned t p = clean t p && every (length p) (λ k. not (spoiled t (take k p)))

-- all nonempty ones, ascending
unfoldable pub unpruned_prefixes : Table → List (List ℕ)
unpruned_prefixes t = prefixes_by t (unpruned t)

-- one search along them, for the outcome that the table states: "its allowance, its count .. read over that list"
unfoldable pub search_pruned : Table → List ℕ → ℕ → Answer
search_pruned t s b = search_by t (unpruned t) (stated_outcome t) s b
