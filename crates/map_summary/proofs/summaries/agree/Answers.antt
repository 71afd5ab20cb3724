use Rattle.std.proofs.Common.{◌≡◌, ℕ, List, length, nat_eq, rules, refl, sym, ◌∙◌}
use lib.Pointwise.{pointwise}
use borrow.Author.Tests.{eq-eqb, eqb-true}
use Rattle.std.specs.Cmp.Lexicographic.{same_text, other_text}
use Rattle.laws_words.specs.Tests.{by_cases, same_test}
use Rattle.rules_base.specs.Summary.{word_at, summaries_of, agree}
use Rattle.rules_base.proofs.Words.{every-at, every-all, all_words, summaries-at}
use Rattle.map_summary.proofs.summaries.agree.Goals as goal

-- to be the map's summaries is to agree with the map
agree-is : (ws xs : List ℕ) → length ws ≡ 96 → pointwise nat_eq ws (summaries_of xs) ≡ agree ws xs
unfolding agree
agree-is ws xs l =
    rw (eq-eqb (length ws) 96 l)
    (same_test _ _
    (λ e. let s : ws ≡ summaries_of xs = same_text ws (summaries_of xs) (sym e) in every-all 96 _ (λ k h. rw (s, summaries-at xs k h) (eq-eqb (word_at xs k) (word_at xs k) refl)))
    (λ e. let s : ws ≡ summaries_of xs = all_words ws xs l (λ j h. eqb-true _ _ (every-at 96 _ j e h)) in
    by_cases (pointwise nat_eq ws (summaries_of xs)) (λ p. p) (λ p. absurd (other_text ws (summaries_of xs) (sym p) s))))

pub returns : goal.returns
returns c = let l : length c.args.words ≡ 96 = search rules in c.eq.ensures ∙ rw c.of_map.ensures (agree-is c.args.words c.args.map.now l)
