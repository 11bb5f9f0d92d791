-- Worked examples of outcomes, each a derivation by hand.
use Rattle.std.proofs.Common.{[], ◌∷◌, refl}
use Rattle.std.specs.Prelude.{codes}
use Rattle.pegread.specs.Pattern.{Any, Bytes, Seq, Choice, Star, And, Not, Act, Open, Close, none, more}
use Rattle.gramcheck.specs.Outcome.{Fails, Takes, Acted, Gives, any_takes, any_at_end, bytes_take, bytes_fail, act}
use Rattle.gramcheck.specs.Outcome.{open_at, close_at, seq, choice, star_none, star_more, and_takes, not_takes}
use Rattle.gramcheck.specs.Outcome.{all_done, one_fails, rest_fails, rest_takes, first_takes, first_fails}

-- `"a" / "ab"` on `ab` takes `a`: the second alternative is not tried once the first has succeeded
first_alternative : Gives [] (codes "ab") (Choice (more (Bytes (codes "a")) (more (Bytes (codes "ab")) none))) 0
    (Takes 1 []) 1
first_alternative = choice (first_takes (bytes_take refl))

-- `.` on the empty input fails, and looks at nothing
any_of_nothing : Gives [] [] Any 0 Fails 0
any_of_nothing = any_at_end refl

-- `<'a'> 'b' {yytext} / 'a' {[yytext]}` on `a`: the capture and the action of the first alternative leave no trace
failed_alternative : Gives [] (codes "a")
    (Choice (more (Seq (more Open (more (Bytes (codes "a"))
    (more Close (more (Bytes (codes "b")) (more (Act (codes "yytext")) none))))))
    (more (Seq (more (Bytes (codes "a")) (more (Act (codes "[yytext]")) none))) none)))
    0 (Takes 1 (Acted (codes "[yytext]") ∷ [])) 1
failed_alternative =
    choice (first_fails
    (seq (rest_fails open_at (rest_fails (bytes_take refl) (rest_fails close_at (one_fails (bytes_fail refl))))))
    (first_takes (seq (rest_takes (bytes_take refl) (rest_takes act all_done)))))

-- `&(<'a'> {p}) 'a' {[yytext]}` on `a`: a predicate leaves no event
predicate_leaves_nothing : Gives [] (codes "a")
    (Seq (more (And (Seq (more Open (more (Bytes (codes "a")) (more Close (more (Act (codes "p")) none))))))
    (more (Bytes (codes "a")) (more (Act (codes "[yytext]")) none))))
    0 (Takes 1 (Acted (codes "[yytext]") ∷ [])) 1
predicate_leaves_nothing =
    seq (rest_takes (and_takes (seq (rest_takes open_at
    (rest_takes (bytes_take refl) (rest_takes close_at (rest_takes act all_done))))))
    (rest_takes (bytes_take refl) (rest_takes act all_done)))

-- `"abc"` on `abx` fails at its third byte, and that byte is looked at
mismatch_is_looked_at : Gives [] (codes "abx") (Bytes (codes "abc")) 0 Fails 3
mismatch_is_looked_at = bytes_fail refl

-- `"abc"` on `ab` fails at the end of the input, and a test there looks at nothing
end_is_not_looked_at : Gives [] (codes "ab") (Bytes (codes "abc")) 0 Fails 2
end_is_not_looked_at = bytes_fail refl

-- `'a' {y} !'b'` on `ac` looks at the byte after what it takes
predicate_looks : Gives [] (codes "ac") (Seq (more (Bytes (codes "a"))
    (more (Act (codes "y")) (more (Not (Bytes (codes "b"))) none)))) 0
    (Takes 1 (Acted (codes "y") ∷ [])) 2
predicate_looks = seq (rest_takes (bytes_take refl)
    (rest_takes act (rest_takes (not_takes (bytes_fail refl)) all_done)))

-- `.*` on `ab` takes both bytes
greedy_star : Gives [] (codes "ab") (Star Any) 0 (Takes 2 []) 2
greedy_star = star_more (any_takes refl) (star_more (any_takes refl) (star_none (any_at_end refl)))
