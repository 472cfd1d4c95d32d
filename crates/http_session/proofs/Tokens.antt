-- A token of the parser is a method.
use Rattle.std.proofs.Common.{◌≡◌, ℕ, Bool, List, IsTrue, get_or, refl, subst}
use Rattle.httparse.specs.Grammar.{IsToken, is_token_byte}
use Rattle.http_header.specs.Token.{IsToken as IsMethod, is_token_byte as is_method_byte}

same_byte : (b : ℕ) → is_token_byte b ≡ is_method_byte b
unfolding is_token_byte is_method_byte
same_byte b = refl

pub token_is_method : (bytes : List ℕ) → IsToken bytes → IsMethod bytes
token_is_method bytes token = (token.0, λ k d lt. subst (λ (t : Bool). IsTrue t) (same_byte (get_or bytes k d)) (token.1 k d lt))
