-- What reading tokens answers, against what the definitions give.
use Rattle.std.specs.Prelude.{◌≡◌, ℕ, List, Result, Ok, Err}
use Rattle.wat_tokens.specs.declared.token_list.Token.{Token}
use Rattle.wat_tokens.specs.declared.token_list.Token.TheVariants as code
use Rattle.wat_tokens.specs.declared.token_list.TokenFault.{TokenFault}
use Rattle.wat_tokens.specs.declared.token_list.TokenFault.TheVariants.{Wrong, Memory}
use Rattle.wat_tokens.specs.Quoted.{quoted_bytes}
use Rattle.wat_tokens.specs.Tokens as token

-- a token without where its bytes lie in memory
abbrev pub seen_token : Token → token.Token
seen_token (code.Open line) = token.Open line
seen_token code.Close = token.Close
seen_token (code.Word word) = token.Word word.now
seen_token (code.Text quoted) = token.Text (quoted_bytes quoted)

-- the answer is what is given, unless memory ran out
abbrev pub Reads : Result (List token.Token) ℕ → Result (List token.Token) TokenFault → Type 0
Reads given (Ok tokens) = given ≡ Ok tokens
Reads given (Err (Wrong line)) = given ≡ Err line
Reads given (Err Memory) = Unit {0}
