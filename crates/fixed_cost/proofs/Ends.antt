-- The place behind the last word.
use Rattle.std.proofs.Common.{◌≡◌, ◌+◌, List, [], ◌∷◌, refl}
use Rattle.number_words.specs.Words.{PlacedWord, end_of}
use Rattle.fixed_cost.specs.Reading.{end_after}

-- behind a word the place before it doesn't count
end_after_word : (w : PlacedWord) (ws : List PlacedWord) → end_after (w.line, w.place + 1) ws ≡ end_of (w ∷ ws)
end_after_word w [] = refl
end_after_word w (v ∷ ws) = end_after_word v ws

-- the end of a text, told from its start
pub end_after_first : (ws : List PlacedWord) → end_after (1, 1) ws ≡ end_of ws
end_after_first [] = refl
end_after_first (w ∷ ws) = end_after_word w ws
