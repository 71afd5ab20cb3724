-- How a node's summaries follow what is done to its map: xs is the map after it. A mark or a clear looks at the places above its chunk alone; what changes more makes them anew.
use Rattle.std.specs.Prelude.{List, ℕ, eqb}
use Rattle.laws_words.specs.Words.{pick}
use Rattle.rules_base.specs.Summary.{summaries_of}
use Rattle.rules_base.specs.Mend.{mended, mended_for}
use Rattle.rules_node.specs.declared.OnMap.{OnMap}

unfoldable pub followed : OnMap → List ℕ → List ℕ → List ℕ
followed OnMap.Keep xs words = words
followed (OnMap.Mark set chunk) xs words = mended_for xs set chunk words
followed (OnMap.Clear member chunk) xs words = mended xs member chunk words
followed (OnMap.LastIos chosen) xs words = summaries_of xs
followed (OnMap.ZeroRow member) xs words = summaries_of xs
followed OnMap.Zero xs words = summaries_of xs
followed (OnMap.KeepRows set) xs words = summaries_of xs
followed (OnMap.Commit set) xs words = summaries_of xs
followed (OnMap.FillRow member) xs words = summaries_of xs

-- where the lent maps refuse, with the number lent, nothing was done, and the summaries stay
unfoldable pub words_after : ℕ → OnMap → List ℕ → List ℕ → List ℕ
words_after lent e xs words = pick (eqb lent 0) (followed e xs words) words
