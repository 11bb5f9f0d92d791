-- Worked examples of printed text, each computed.
use Rattle.std.proofs.Common.{◌≡◌, [], ◌∷◌, ◌++◌, refl, true, false, append_assoc, append-nil, decimal}
use Rattle.std.specs.Prelude.{codes}
use Rattle.gramcheck.specs.Outcome.{Opened, Closed, Acted}
use Rattle.pegnodes.specs.Templates.{Word, Other, pieces_of}
use Rattle.pegmatch.specs.Text.{text_of}
use Rattle.pegmatch.specs.declared.style.PrintStyle.{PrintStyle}

abbrev plain : PrintStyle
plain = record { raw = false; escapes = false }

abbrev verbatim : PrintStyle
verbatim = record { raw = true; escapes = false }

abbrev escaped : PrintStyle
escaped = record { raw = false; escapes = true }

abbrev verbatim_escaped : PrintStyle
verbatim_escaped = record { raw = true; escapes = true }

-- word bytes that stand side by side are one run
runs_are_maximal : pieces_of (codes "a1_ b") ≡ Word (codes "a1_") ∷ (Other 32 ∷ (Word (codes "b") ∷ []))
runs_are_maximal = refl

-- `{ yytext yyleng yytextual }` with the capture `yyleng`: a longer run stands, and what is put in is not looked at
-- again
names_within_words : text_of plain (codes "yyleng") (Opened 0 ∷
    (Closed 6 ∷ (Acted (codes " yytext yyleng yytextual ") ∷ []))) ≡
    codes "yyleng " ++ ((decimal 6 ++ codes " yytextual") ++ codes "\n")
names_within_words = simp (append_assoc, append-nil)

-- `{ USER }` prints its template without the blanks at its ends, on a line
blanks_are_cut : text_of plain [] (Acted (codes " USER ") ∷ []) ≡ codes "USER\n"
blanks_are_cut = refl

-- a captured LF stands: `< . > { yytext }` at an LF
captured_line_end : text_of plain (10 ∷ []) (Opened 0 ∷ (Closed 1 ∷ (Acted (codes " yytext ") ∷ []))) ≡ 10 ∷ (10 ∷ [])
captured_line_end = refl

-- before any capture it is empty
no_capture : text_of plain (codes "a") (Acted (codes "[yytext]") ∷ []) ≡ codes "[]\n"
no_capture = refl

-- a close with no open before it changes nothing
close_alone : text_of verbatim (codes "ab") (Closed 2 ∷ (Acted (codes "[yytext]") ∷ [])) ≡ codes "[]"
close_alone = refl

-- a second close uses the same start
second_close : text_of verbatim (codes "abc") (Opened 0 ∷ (Closed 1 ∷ (Closed 3 ∷ (Acted (codes "yytext") ∷ []))))
    ≡ codes "abc"
second_close = refl

-- C in a template stands as it is, but for the words: `{ putchar(yytext[0]); }`
code_stands : text_of plain (codes "h") (Opened 0 ∷ (Closed 1 ∷ (Acted (codes " putchar(yytext[0]); ") ∷ [])))
    ≡ codes "putchar(h[0]);\n"
code_stands = refl

-- raw: the template as it is, and no LF
raw_text : text_of verbatim (codes "a") (Opened 0 ∷ (Closed 1 ∷ (Acted (codes "yytext-") ∷ []))) ≡ codes "a-"
raw_text = refl

-- without escapes a backslash stands
backslash_stands : text_of plain [] (Acted (codes " \\n ") ∷ []) ≡ codes "\\n\n"
backslash_stands = refl

-- with them `{ \x7b }` and `{ \x7B }` print a brace
lone_brace : text_of escaped [] (Acted (codes " \\x7b\\x7B ") ∷ []) ≡ codes "{{\n"
lone_brace = refl

escaped_letters : text_of verbatim_escaped [] (Acted (codes "\\n\\t\\r\\\\n") ∷ [])
    ≡ 10 ∷ (9 ∷ (13 ∷ (92 ∷ (110 ∷ []))))
escaped_letters = refl

-- no escape: `\xg0`, `\a`, and a backslash at the end
no_escape : text_of verbatim_escaped [] (Acted (codes "\\xg0\\a\\") ∷ []) ≡ codes "\\xg0\\a\\"
no_escape = refl

-- `\nyytext` is a line feed and the capture, and `\x79ytext` is not the word `yytext`
words_after_escapes : text_of verbatim_escaped (codes "a") (Opened 0 ∷
    (Closed 1 ∷ (Acted (codes "\\nyytext\\x79ytext") ∷ []))) ≡ codes "\nayytext"
words_after_escapes = refl

-- blanks are cut before: `{ yytext\n }` prints a line feed of its own
line_feed_stays : text_of escaped (codes "a") (Opened 0 ∷ (Closed 1 ∷ (Acted (codes " yytext\\n ") ∷ [])))
    ≡ codes "a\n\n"
line_feed_stays = refl
